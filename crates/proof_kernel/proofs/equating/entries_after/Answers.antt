use Rattle.std.proofs.Common.{map, ap, ◌∙◌, sym}
use Rattle.std.proofs.lemmas.List.{drop-map}
use Rattle.binding_terms.proofs.Lists.{rest_taken}
use Rattle.scheme_terms.specs.View.{scheme_entry}
use Rattle.proof_kernel.proofs.equating.entries_after.Goals as goal

pub returns : goal.returns
returns c = ap (map scheme_entry) (rest_taken c.args.entries.now c.args.count) ∙ sym (drop-map scheme_entry c.args.count c.args.entries.now)
