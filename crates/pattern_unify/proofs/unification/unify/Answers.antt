use Rattle.std.proofs.Common.{ap, subst, map}
use Rattle.scheme_terms.specs.View.{names, substitution}
use Rattle.pattern_unify.specs.Equations.{equation}
use Rattle.pattern_unify.specs.State.{start}
use Rattle.pattern_unify.specs.Run.{Runs, solved, clashed}
use Rattle.pattern_unify.specs.Stepped.{state}
use Rattle.pattern_unify.specs.Ended.{end_of}
use Rattle.pattern_unify.proofs.Answering.{solved_answer, clashed_answer}
use Rattle.pattern_unify.proofs.unification.unify.Goals as goal

pub returns-in_ok-found_over_left-in-Solved : goal.returns-in_ok-found_over_left-in-Solved
returns-in_ok-found_over_left-in-Solved c =
    solved_answer c.args.sig.now (names c.args.scope.now) (map equation c.args.eqs.now.items) (state c.in-Solved.st) (substitution c.in_ok-found_over_left-in-Solved.field-0)
    c.prods.ensures.fits (record { knowns = c.requires.knowns; sides = c.requires.sides })
    (subst (λ xs. Runs c.args.sig.now (start (names c.args.scope.now) (map equation xs)) (solved (state c.in-Solved.st))) c.as_slice.ensures.value
    (subst (Runs c.args.sig.now (start (names c.args.scope.now) (map equation c.as_slice.result.now))) (ap end_of c.in-Solved.is) c.in_ok-st.ensures))
    c.in_ok-found_over_left-in-Solved.ensures

pub returns-in-Clashed : goal.returns-in-Clashed
returns-in-Clashed c =
    clashed_answer c.args.sig.now (names c.args.scope.now) (map equation c.args.eqs.now.items) c.prods.ensures.fits
    (record { knowns = c.requires.knowns; sides = c.requires.sides })
    (subst (λ xs. Runs c.args.sig.now (start (names c.args.scope.now) (map equation xs)) clashed) c.as_slice.ensures.value
    (subst (Runs c.args.sig.now (start (names c.args.scope.now) (map equation c.as_slice.result.now))) (ap end_of c.in-Clashed.is) c.in_ok-st.ensures))
