use Rattle.std.proofs.Common.{◌≡◌, ℕ, List, [], ◌∷◌, ◌++◌, map, refl, sym, ap, subst, ◌∙◌}
use Rattle.std.proofs.lemmas.List.{map-append, drop_all}
use Rattle.core_proofs.specs.declared.step.StepId.{StepId}
use Rattle.outline_reader.specs.declared.parts.ArgText.{ArgText}
use Rattle.outline_reader.specs.Views.{arg_view}
use Rattle.outline_reader.specs.Plain.{PlainArgument, plain_argument}
use Rattle.proof_check.specs.Cited.{IsCitedAs}
use Rattle.proof_check.specs.Finding.{Begins}
use Rattle.proof_check.proofs.FindingLemmas.{begins_then, finds_all, finds_none, zip_turn, zip_stop, zip_past}
use Rattle.proof_check.proofs.cited.all_cited.Goals as goal

abbrev seen : List ArgText → List PlainArgument
seen arguments = map plain_argument (map arg_view arguments)

abbrev one : ArgText → PlainArgument
one argument = plain_argument (arg_view argument)

abbrev number : StepId → ℕ
number id = id.0

pub returns-in-None : goal.returns-in-None
returns-in-None c =
    finds_none _ _ _ c.loop-argument.invariant
    (zip_stop seen one (λ x xs. refl) (IsCitedAs c.args.named.now) c.args.arguments.now c.loop-argument.argument-index _ c.loop-argument-test.true c.in-None.ensures)

pub loop-argument-preserved : goal.loop-argument-preserved
loop-argument-preserved c =
    let turn = zip_turn seen one (λ x xs. refl) (IsCitedAs c.args.named.now) c.args.arguments.now c.loop-argument.argument-index _ c.in-Some.at c.loop-argument-test.true c.in-Some.ensures in
    let e : map number c.push.new.self ≡ map number c.loop-argument.on ++ c.in-Some.at ∷ [] =
    ap (map number) c.in_ok-push-in-Some.ensures.ok ∙ map-append number c.loop-argument.on _ ∙ ap (λ n. map number c.loop-argument.on ++ n ∷ []) c.in_ok-number-in-Some.ensures in
    subst (Begins _ _) (sym e) (begins_then _ _ _ _ _ c.loop-argument.invariant turn)

pub returns : goal.returns
returns c =
    let past = zip_past seen one (λ x xs. refl) (IsCitedAs c.args.named.now) c.args.arguments.now c.loop-argument.argument-index c.loop-argument-test.false refl
    (drop_all c.loop-argument.argument-index c.args.arguments.now c.loop-argument-test.false) in
    finds_all _ _ _ c.loop-argument.invariant past.0 past.1
