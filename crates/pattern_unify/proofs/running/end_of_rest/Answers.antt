use Rattle.std.proofs.Common.{sym, ◌∙◌}
use Rattle.binding_terms.proofs.Lists.{map_empty, map_empty_back}
use Rattle.pattern_unify.specs.Equations.{equation}
use Rattle.pattern_unify.specs.Run.{is_solved, is_stuck}
use Rattle.pattern_unify.specs.Stepped.{state}
use Rattle.pattern_unify.proofs.running.end_of_rest.Goals as goal

pub returns-then-len-eq0 : goal.returns-then-len-eq0
returns-then-len-eq0 c = λ rest sig. is_solved (state c.args.st) (map_empty equation c.args.st.equations (sym c.len.ensures ∙ c.if-len-eq0.true))

pub returns : goal.returns
returns c = λ rest sig. is_stuck (state c.args.st) ((λ e. c.if-len-eq0.false (c.len.ensures ∙ map_empty_back equation c.args.st.equations e)), rest)
