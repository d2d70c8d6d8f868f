-- A grammar without a fault is written as a signature.
use Rattle.std.proofs.Common.{◌≡◌, ◌↔◌, ℕ, Bool, true, false, not, IsTrue, List, [], ◌∷◌, Option, None, Some, slice_get, refl, ap, subst, inl, inr}
use Rattle.std.specs.List.{AllByRecursion, AllZip, Contains}
use Rattle.std.specs.Option.{MatchOption}
use Rattle.sy_base.specs.Tokens.{PlainToken}
use Rattle.sy_base.specs.declared.fault.Code.TheVariants as code
use Rattle.binding_terms.specs.Signature.{Signature, Fits}
use Rattle.binding_terms.specs.declared.grammar.Cat.{Cat}
use Rattle.outline_reader.specs.Plain.{PlainPortion, judgment_of, theorem_of}
use Rattle.user_grammar.specs.File.{WrittenCategory, listed, categories, assumed, assumed_in, texts_if}
use Rattle.user_grammar.specs.Names.{IsAmong, category_names, variable_names}
use Rattle.user_grammar.specs.Production.{IsVariable}
use Rattle.user_grammar.specs.Grammar.{IsWritten}
use Rattle.user_grammar.specs.Fault.{category_texts, AssumesHere, unknown_context, HasNoFault}
use Rattle.rule_schemes.specs.Reading.{IsSpelling}
use Rattle.user_grammar.specs.Laws.{FaultlessFilesHaveASignature}
use Rattle.user_grammar.specs.MadeItems.{IsFirstVariable, IsMadeCategory}
use Rattle.user_grammar.proofs.MadeDecided.{Decided, not_refused, among_decided, variable_decided}
use Rattle.user_grammar.proofs.MadeCategories.{names_written}
use Rattle.user_grammar.proofs.MadeTold.{made_names}
use Rattle.user_grammar.proofs.MadeKnown.{are_categories, known_names, all_productions}
use Rattle.user_grammar.proofs.FitsDecided.{fits_decided}
use Rattle.user_grammar.proofs.Spellings.{apart_left, apart_right, one_category, one_variable}
use Rattle.user_grammar.proofs.MadeFitting.{signature_fits, contexts_stand}
use Rattle.binding_terms.proofs.Lists.{all_append, all_in_itself}

-- ---- categories

further_variable : (texts listed : List (List ℕ)) (form : List PlainToken) (forms : List (List PlainToken)) (var : Option (List ℕ)) → (IsVariable texts listed form → ⊥)
    → IsFirstVariable texts listed forms var → IsFirstVariable texts listed (form ∷ forms) var
further_variable texts listed form forms None not first = (not, first)
further_variable texts listed form forms (Some name) not first =
    (form ∷ first.0, first.1, first.2, ap (λ (fs : List (List PlainToken)). form ∷ fs) first.3, (not, first.4), first.5, first.6)

first_there : (texts listed : List (List ℕ)) (forms : List (List PlainToken)) → (var : Option (List ℕ)) × IsFirstVariable texts listed forms var
first_there texts listed [] = (None, tt)
first_there texts listed (form ∷ forms) = by_case form (variable_decided texts listed form) (first_there texts listed forms)
  where
    by_case : (form : List PlainToken) → Decided (IsVariable texts listed form) → (var : Option (List ℕ)) × IsFirstVariable texts listed forms var
        → (var : Option (List ℕ)) × IsFirstVariable texts listed (form ∷ forms) var
    by_case form (inr not) rest = (rest.0, further_variable texts listed form forms rest.0 not rest.1)
    by_case [] (inl is) rest = absurd is
    by_case (token ∷ other ∷ form) (inl is) rest = absurd is
    by_case (token ∷ []) (inl is) rest = (Some token.text, ([], token, forms, refl, tt, is, refl))

mark_there : {A : Type 0} → Decided A → (b : Bool) × ((b ≡ true) ↔ A)
mark_there (inl is) = (true, (λ same. is, λ a. refl))
mark_there (inr not) = (false, (λ same. absurd (let never : false ≡ true = same in cc), λ a. absurd (not a)))

category_there : (texts listed assumed : List (List ℕ)) (w : WrittenCategory) → (cat : Cat) × IsMadeCategory texts listed assumed w cat
category_there texts listed assumed w =
    let var = first_there texts listed w.forms in
    let mark = mark_there (among_decided assumed w.name.text) in
    let cat : Cat = record { name = w.name.text; var = var.0; context = mark.0 } in
    (cat, record { category = record { name = refl; context = mark.1 }; variable = var.1 })

categories_there : (texts listed assumed : List (List ℕ)) (some : List WrittenCategory) → (cats : List Cat) × AllZip (IsMadeCategory texts listed assumed) some cats
categories_there texts listed assumed [] = ([], tt)
categories_there texts listed assumed (w ∷ some) =
    let head = category_there texts listed assumed w in let rest = categories_there texts listed assumed some in (head.0 ∷ rest.0, (head.1, rest.1))

-- ---- what is assumed

module _ (portions : List PlainPortion) (no_fault : HasNoFault portions) where
  is_category : (portion : PlainPortion) (token : PlainToken) → Contains portions portion → AssumesHere portion token → IsAmong (category_texts portions) token.text
  is_category portion token there assumes =
      not_refused (among_decided (category_texts portions) token.text)
      (λ not. no_fault code.UnknownWord token token.text (unknown_context portion refl refl there assumes not))

  all_if : (portion : PlainPortion) (assumes : Option PlainToken) → Contains portions portion → ((token : PlainToken) → assumes ≡ Some token → AssumesHere portion token)
      → AllByRecursion (IsAmong (category_texts portions)) (texts_if assumes)
  all_if portion None there here = tt
  all_if portion (Some token) there here = (is_category portion token there (here token refl), tt)

  assumed_here : (portion : PlainPortion) → Contains portions portion → AllByRecursion (IsAmong (category_texts portions)) (assumed_in portion)
  assumed_here (judgment_of first name form assumes) there = all_if (judgment_of first name form assumes) assumes there (λ token is. is)
  assumed_here (theorem_of first joined kind name assumes inputs outputs targets) there =
      all_if (theorem_of first joined kind name assumes inputs outputs targets) assumes there (λ token is. is)
  assumed_here _ there = tt

  assumed_there : (some : List PlainPortion) → AllByRecursion (Contains portions) some → AllByRecursion (IsAmong (category_texts portions)) (assumed some)
  assumed_there [] there = tt
  assumed_there (portion ∷ some) there =
      all_append (IsAmong (category_texts portions)) (assumed_in portion) (assumed some) (assumed_here portion there.0) (assumed_there some there.1)

  -- the signature is there, and nothing says that it does not fit
  pub signature_there : (sig : Signature) × IsWritten portions sig × ((Fits sig → ⊥) → ⊥)
  signature_there =
      let made = categories_there (category_texts portions) (listed portions) (assumed portions) (categories portions) in
      let cats = made.0 in
      let named = made_names portions (assumed portions) cats no_fault made.1 in
      let prods = all_productions portions no_fault (assumed portions) cats made.1 named.apart in
      let are = are_categories portions no_fault (assumed portions) (categories portions) cats made.1 in
      let same : category_texts portions ≡ category_names cats = names_written (assumed portions) (categories portions) cats are in
      let known = known_names portions no_fault (assumed portions) cats made.1 in
      let sig : Signature = record { cats = cats; prods = prods.0 } in (
        sig,
        record {
          cats = are;
          assumed = subst (λ ns. AllByRecursion (IsAmong ns) (assumed portions)) same (assumed_there portions (all_in_itself portions));
          names = named;
          prods = prods.1;
        },
        λ refuse. contexts_stand portions no_fault
            (λ contexts. refuse (signature_fits portions no_fault (assumed portions) contexts cats made.1 known named.apart prods.0 same prods.1)),
      )

-- ---- the law

plain_is_spelled : (found : Option Cat) (word : List ℕ) → MatchOption found ⊥ (λ cat. IsTrue (not cat.context) × IsSpelling cat.name word)
    → MatchOption found ⊥ (λ cat. IsSpelling cat.name word)
plain_is_spelled None word none = none
plain_is_spelled (Some cat) word is = is.1

pub signature_stands : FaultlessFilesHaveASignature
signature_stands portions no_fault =
    let there = signature_there portions no_fault in
    let cats = there.0.cats in
    let apart = there.1.names.apart in (
      there.0,
      record { written = there.1; fits = not_refused (fits_decided there.0) there.2 },
      (λ c d word one other.
          one_category cats c d word (apart_left (category_names cats) (variable_names cats) apart)
          (plain_is_spelled (slice_get cats c) word one) (plain_is_spelled (slice_get cats d) word other)),
      (λ c d word one other. one_variable cats c d word (apart_right (category_names cats) (variable_names cats) apart) one other),
    )
