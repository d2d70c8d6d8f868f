-- The name that a portion has behind `assumes`, where it is no category.
use Rattle.std.proofs.Common.{◌≡◌, List, Some, Option, None, refl, sym, ◌∙◌}
use Rattle.sy_base.specs.FirstFault.{at_token}
use Rattle.sy_base.specs.Tokens.{PlainToken}
use Rattle.sy_base.specs.declared.fault.Code.TheVariants.{UnknownWord}
use Rattle.sy_base.proofs.FirstLemmas.{found_one}
use Rattle.outline_reader.specs.Plain.{PlainPortion, terminals, syntax_word, category, judgment_of, rule_of, theorem_of, step_of, inversion, case_rule, case_term, end_line}
use Rattle.user_grammar.specs.Names.{IsAmong}
use Rattle.user_grammar.specs.Fault.{AssumesHere, category_texts}
use Rattle.user_grammar.specs.Finding.{IsFoundAt, IsLeast, IsUnknownContext, LentFault, UnknownContexts, assumed_token, lent_words}

assumed_here : (p : PlainPortion) (t : PlainToken) → assumed_token p ≡ Some t → AssumesHere p t
assumed_here (judgment_of first name form assumes) t is = is
assumed_here (theorem_of first joined kind name assumes inputs outputs targets) t is = is
assumed_here (terminals first tokens) t is = cc
assumed_here (syntax_word first) t is = cc
assumed_here (category name mark forms) t is = cc
assumed_here (rule_of premises name conclusion) t is = cc
assumed_here (step_of first names forms why) t is = cc
assumed_here (inversion first subject premises name conclusion) t is = cc
assumed_here (case_rule first premises name conclusion) t is = cc
assumed_here (case_term first form assumes) t is = cc
assumed_here (end_line first part) t is = cc

here_assumed : (p : PlainPortion) (t : PlainToken) → AssumesHere p t → assumed_token p ≡ Some t
here_assumed (judgment_of first name form assumes) t is = is
here_assumed (theorem_of first joined kind name assumes inputs outputs targets) t is = is
here_assumed (terminals first tokens) t is = absurd is
here_assumed (syntax_word first) t is = absurd is
here_assumed (category name mark forms) t is = absurd is
here_assumed (rule_of premises name conclusion) t is = absurd is
here_assumed (step_of first names forms why) t is = absurd is
here_assumed (inversion first subject premises name conclusion) t is = absurd is
here_assumed (case_rule first premises name conclusion) t is = absurd is
here_assumed (case_term first form assumes) t is = absurd is
here_assumed (end_line first part) t is = absurd is

pub unknown_assumed : (portions : List PlainPortion) (p : PlainPortion) (t : PlainToken) (f : LentFault) → assumed_token p ≡ Some t → (IsAmong (category_texts portions) t.text → ⊥)
    → IsFoundAt UnknownWord t f → IsLeast (UnknownContexts portions p) (Some f)
unknown_assumed portions p t f here none found =
    found_one at_token lent_words UnknownWord (λ one. one.text) (IsUnknownContext portions p) t f found (record { assumes = assumed_here p t here; unknown = none })
    (λ s y. (let both : Some s ≡ Some t = sym (here_assumed p s y.assumes) ∙ here in cc))
