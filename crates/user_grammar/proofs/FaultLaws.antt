-- A file whose grammar has a fault stands for no signature: each fault in turn.
use Rattle.std.proofs.Common.{◌≢◌, ℕ, List, [], ◌∷◌, Option, refl, sym, subst}
use Rattle.std.specs.List.{AllByRecursion, Contains}
use Rattle.sy_base.specs.Tokens.{PlainToken}
use Rattle.binding_terms.specs.Signature.{Signature}
use Rattle.outline_reader.specs.Plain.{PlainPortion, terminals, syntax_word, category, judgment_of, rule_of, theorem_of, step_of, inversion, case_rule, case_term, end_line}
use Rattle.user_grammar.specs.File.{WrittenCategory, assumed, assumed_in, texts_if, categories}
use Rattle.user_grammar.specs.Names.{IsAmong}
use Rattle.user_grammar.specs.Grammar.{IsSignatureOf}
use Rattle.user_grammar.specs.Fault.{category_texts, IsOneSlot, AssumesHere, IsContextCategory, duplicate, empty_production, single_category, unknown_word, unknown_context, bad_binder, binder_twice, bad_context}
use Rattle.user_grammar.specs.Laws.{FaultyFilesHaveNoSignature}
use Rattle.user_grammar.proofs.FaultLawsWords.{same_names}
use Rattle.user_grammar.proofs.FaultLawsForms.{IsRead, nothing_unknown, nothing_wrong, nothing_twice}
use Rattle.user_grammar.proofs.FaultLawsFiles.{IsFound, found, own_variable, all_read, all_some, all_more}
use Rattle.user_grammar.proofs.FaultLawsContexts.{keeps_the_rule}
use Rattle.user_grammar.proofs.FaultLawsNames.{nothing_declared_twice}
use Rattle.binding_terms.proofs.Lists.{all_contained, all_front, all_right}

-- what holds of all assumed names holds of a portion's own
named_here : (P : List ℕ → Type 0) (portion : PlainPortion) (token : PlainToken) → AllByRecursion P (assumed_in portion) → AssumesHere portion token → P token.text
named_here P (judgment_of first name form assumes) token all here = (subst (λ (o : Option PlainToken). AllByRecursion P (texts_if o)) here all).0
named_here P (theorem_of first joined kind name assumes inputs outputs targets) token all here = (subst (λ (o : Option PlainToken). AllByRecursion P (texts_if o)) here all).0
named_here P (terminals first tokens) token all here = absurd here
named_here P (syntax_word first) token all here = absurd here
named_here P (category name mark forms) token all here = absurd here
named_here P (rule_of premises name conclusion) token all here = absurd here
named_here P (step_of first names forms why) token all here = absurd here
named_here P (inversion first subject premises name conclusion) token all here = absurd here
named_here P (case_rule first premises name conclusion) token all here = absurd here
named_here P (case_term first form assumes) token all here = absurd here
named_here P (end_line first part) token all here = absurd here

each_portion : (P : List ℕ → Type 0) (portions : List PlainPortion) → AllByRecursion P (assumed portions) → AllByRecursion (λ portion. AllByRecursion P (assumed_in portion)) portions
each_portion P [] all = tt
each_portion P (portion ∷ portions) all =
    (all_front P (assumed_in portion) (assumed portions) all, each_portion P portions (all_right P (assumed_in portion) (assumed portions) all))

module _ (portions : List PlainPortion) (sig : Signature) (is : IsSignatureOf portions sig) where
  its : (written : WrittenCategory) → Contains (categories portions) written → IsFound portions sig is.written written
  its written at = found portions sig is.written written is.fits.prods at

  read : (written : WrittenCategory) (form : List PlainToken) → Contains (categories portions) written → Contains written.forms form → IsRead portions sig is.written form
  read written form at among =
      let own = its written at in
      all_contained (IsRead portions sig is.written) written.forms form (all_read portions sig is.written own.forms own.fit (own_variable portions sig is.written written own)) among

  known_context : (portion : PlainPortion) (token : PlainToken) → Contains portions portion → AssumesHere portion token → IsAmong (category_texts portions) token.text
  known_context portion token at here =
      let all = subst (λ ns. AllByRecursion (IsAmong ns) (assumed portions)) (same_names portions sig is.written) is.written.assumed in
      named_here (IsAmong (category_texts portions)) portion token
      (all_contained (λ portion. AllByRecursion (IsAmong (category_texts portions)) (assumed_in portion)) portions portion (each_portion (IsAmong (category_texts portions)) portions all) at) here

  context_kept : (written : WrittenCategory) → Contains (categories portions) written → IsAmong (assumed portions) written.name.text → IsContextCategory portions written
  context_kept written at among =
      let own = its written at in
      keeps_the_rule portions sig is.written written own (own.is.context.1 (subst (IsAmong (assumed portions)) (sym own.is.name) among)) is.fits

pub no_signature : FaultyFilesHaveNoSignature
no_signature portions sig found token detail is (duplicate code says declared) = nothing_declared_twice portions sig is.written is.fits.prods token declared
no_signature portions sig found token detail is (empty_production written code says at same among) =
    let own = its portions sig is written at in all_contained (λ form. form ≢ []) written.forms [] (all_some portions sig is.written own.forms own.fit) among refl
no_signature portions sig found token detail is (single_category written rest code says at among one) =
    let own = its portions sig is written at in all_contained (λ form. IsOneSlot portions form → ⊥) written.forms (token ∷ rest) (all_more portions sig is.written own.forms own.fit) among one
no_signature portions sig found token detail is (unknown_word written form code says at among unknown) =
    nothing_unknown portions sig is.written form (read portions sig is written form at among) token unknown
no_signature portions sig found token detail is (unknown_context portion code says at here none) = none (known_context portions sig is portion token at here)
no_signature portions sig found token detail is (bad_binder written form code says at among wrong) =
    nothing_wrong portions sig is.written form (read portions sig is written form at among) token wrong
no_signature portions sig found token detail is (binder_twice written form code says at among second) =
    nothing_twice portions sig is.written form (read portions sig is written form at among) token second
no_signature portions sig found token detail is (bad_context written code says at same among broken) =
    broken (context_kept portions sig is written at among)
