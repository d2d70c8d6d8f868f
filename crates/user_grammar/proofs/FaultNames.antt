-- Of which names a word is a spelling, and which forms are variables.
use Rattle.std.proofs.Common.{◌≡◌, ◌↔◌, Bool, IsTrue, ◌<◌, ◌+◌, ◌++◌, ℕ, List, [], ◌∷◌, map, length, get_or, take, ap, ◌∙◌, sym, subst, inl, inr}
use Rattle.std.proofs.lemmas.List.{append-nil, append_assoc, take_more, map-append}
use Rattle.binding_terms.specs.Numbered.{AnyByRecursion}
use Rattle.sy_base.specs.Tokens.{PlainToken}
use Rattle.outline_reader.specs.Plain.{PlainPortion}
use Rattle.rule_schemes.specs.Reading.{IsSpelling}
use Rattle.user_grammar.specs.File.{WrittenCategory}
use Rattle.user_grammar.specs.Fault.{AreVariables, no_variables, a_word, a_production, SpellsVariable, DeclaresVariable}
use Rattle.user_grammar.specs.Finding.{all_forms, written_view}
use Rattle.user_grammar.specs.declared.fault_lists.Written.{Written}
use Rattle.user_grammar.proofs.FaultDeclared.{variables_append}
use Rattle.binding_terms.proofs.Lists.{any_back, any_front, any_split}

-- a word that is so
pub word_and : {K : Type 0} (P : List ℕ → Type 0) (r : Bool) (bytes text : List ℕ) → bytes ≡ text → K → (IsTrue r ↔ P bytes) → IsTrue r ↔ (K × P text)
word_and P r bytes text same k is = ((λ t. (k, subst P same (is.0 t))), (λ both. is.1 (subst P (sym same) both.1)))

-- what is so of all is so of another fact that is the same
pub by_same : {P Q : Type 0} (r : Bool) → (IsTrue r ↔ P) → (P ↔ Q) → IsTrue r ↔ Q
by_same r is same = ((λ t. same.0 (is.0 t)), (λ q. is.1 (same.1 q)))

declared : (portions : List PlainPortion) (w : List ℕ) (form : List PlainToken) → SpellsVariable portions w form → DeclaresVariable portions form
declared portions w [] spells = absurd spells
declared portions w (t ∷ rest) spells = spells.0

spelled_there : (portions : List PlainPortion) {forms : List (List PlainToken)} {tokens : List PlainToken} (w : List ℕ) → AreVariables portions forms tokens
    → AnyByRecursion (λ (t : PlainToken). IsSpelling t.text w) tokens → AnyByRecursion (SpellsVariable portions w) forms
spelled_there portions w no_variables any = any
spelled_there portions w (a_word is more) (inl s) = inl (is, s)
spelled_there portions w (a_word is more) (inr any) = inr (spelled_there portions w more any)
spelled_there portions w (a_production none more) any = inr (spelled_there portions w more any)

spelled_back : (portions : List PlainPortion) {forms : List (List PlainToken)} {tokens : List PlainToken} (w : List ℕ) → AreVariables portions forms tokens
    → AnyByRecursion (SpellsVariable portions w) forms → AnyByRecursion (λ (t : PlainToken). IsSpelling t.text w) tokens
spelled_back portions w no_variables any = any
spelled_back portions w (a_word is more) (inl s) = inl s.1
spelled_back portions w (a_word is more) (inr any) = inr (spelled_back portions w more any)
spelled_back portions w (a_production {form = form} none more) (inl s) = absurd (none (declared portions w form s))
spelled_back portions w (a_production none more) (inr any) = spelled_back portions w more any

flat_there : (P : List PlainToken → Type 0) (cats : List WrittenCategory) → AnyByRecursion P (all_forms cats) → AnyByRecursion (λ (c : WrittenCategory). AnyByRecursion P c.forms) cats
flat_there P [] any = any
flat_there P (c ∷ cats) any = elim (any_split P c.forms (all_forms cats) any) [ inl l ↦ inl l | inr r ↦ inr (flat_there P cats r) ]

flat_back : (P : List PlainToken → Type 0) (cats : List WrittenCategory) → AnyByRecursion (λ (c : WrittenCategory). AnyByRecursion P c.forms) cats → AnyByRecursion P (all_forms cats)
flat_back P [] any = any
flat_back P (c ∷ cats) (inl l) = any_front P c.forms (all_forms cats) l
flat_back P (c ∷ cats) (inr r) = any_back P c.forms (all_forms cats) (flat_back P cats r)

-- a word spells one of the variables where it spells the variable of a form of a category
pub spells_some_variable : (portions : List PlainPortion) (cats : List WrittenCategory) (tokens : List PlainToken) (w : List ℕ) → AreVariables portions (all_forms cats) tokens
    → AnyByRecursion (λ (t : PlainToken). IsSpelling t.text w) tokens ↔ AnyByRecursion (λ (c : WrittenCategory). AnyByRecursion (SpellsVariable portions w) c.forms) cats
spells_some_variable portions cats tokens w are = (
  (λ any. flat_there (SpellsVariable portions w) cats (spelled_there portions w are any)),
  (λ any. spelled_back portions w are (flat_back (SpellsVariable portions w) cats any)),
)

-- ---- loops

pub none_yet : {X : Type 0} (portions : List PlainPortion) (view : X → PlainToken) (items : List X) → items ≡ [] → AreVariables portions [] (map view items)
none_yet portions view items e = subst (λ xs. AreVariables portions [] (map view xs)) (sym e) no_variables

-- one form more
pub variables_more : {X : Type 0} (portions : List PlainPortion) (view : X → List PlainToken) (xs : List X) (i : ℕ) (d : X) (old own new : List PlainToken) → i < length xs
    → AreVariables portions (map view (take i xs)) old → AreVariables portions (view (get_or xs i d) ∷ []) own → new ≡ old ++ own → AreVariables portions (map view (take (i + 1) xs)) new
variables_more portions view xs i d old own new lt all one same =
    let more : map view (take i xs) ++ view (get_or xs i d) ∷ [] ≡ map view (take (i + 1) xs) =
    sym (map-append view (take i xs) (get_or xs i d ∷ [])) ∙ ap (map view) (sym (take_more xs i d lt)) in
    subst (λ fs. AreVariables portions fs new) more (subst (AreVariables portions (map view (take i xs) ++ view (get_or xs i d) ∷ [])) (sym same) (variables_append portions all one))

forms_append : (xs : List WrittenCategory) (x : WrittenCategory) → all_forms (xs ++ x ∷ []) ≡ all_forms xs ++ x.forms
forms_append [] x = append-nil x.forms
forms_append (y ∷ xs) x = ap (λ fs. y.forms ++ fs) (forms_append xs x) ∙ sym (append_assoc y.forms (all_forms xs) x.forms)

-- one category more
pub all_variables_more : (portions : List PlainPortion) (xs : List Written) (i : ℕ) (d : Written) (old own new : List PlainToken) → i < length xs
    → AreVariables portions (all_forms (map written_view (take i xs))) old → AreVariables portions (written_view (get_or xs i d)).forms own → new ≡ old ++ own
    → AreVariables portions (all_forms (map written_view (take (i + 1) xs))) new
all_variables_more portions xs i d old own new lt all one same =
    let more : map written_view (take i xs) ++ written_view (get_or xs i d) ∷ [] ≡ map written_view (take (i + 1) xs) =
    sym (map-append written_view (take i xs) (get_or xs i d ∷ [])) ∙ ap (map written_view) (sym (take_more xs i d lt)) in
    let forms : all_forms (map written_view (take i xs)) ++ (written_view (get_or xs i d)).forms ≡ all_forms (map written_view (take (i + 1) xs)) =
    sym (forms_append (map written_view (take i xs)) (written_view (get_or xs i d))) ∙ ap all_forms more in
    subst (λ fs. AreVariables portions fs new) forms (subst (AreVariables portions (all_forms (map written_view (take i xs)) ++ (written_view (get_or xs i d)).forms)) (sym same) (variables_append portions all one))

-- one form more, where forms are seen twice over
pub variables_more_seen : {X W : Type 0} (portions : List PlainPortion) (f : W → List PlainToken) (g : X → W) (xs : List X) (i : ℕ) (d : X) (old own new : List PlainToken) → i < length xs
    → AreVariables portions (map f (map g (take i xs))) old → AreVariables portions (f (g (get_or xs i d)) ∷ []) own → new ≡ old ++ own → AreVariables portions (map f (map g (take (i + 1) xs))) new
variables_more_seen portions f g xs i d old own new lt all one same =
    let more : map f (map g (take i xs)) ++ f (g (get_or xs i d)) ∷ [] ≡ map f (map g (take (i + 1) xs)) =
    sym (map-append f (map g (take i xs)) (g (get_or xs i d) ∷ []))
    ∙ ap (map f) (sym (map-append g (take i xs) (get_or xs i d ∷ [])) ∙ ap (map g) (sym (take_more xs i d lt))) in
    subst (λ fs. AreVariables portions fs new) more (subst (AreVariables portions (map f (map g (take i xs)) ++ f (g (get_or xs i d)) ∷ [])) (sym same) (variables_append portions all one))

pub one_variable_form : (portions : List PlainPortion) (form : List PlainToken) (t : PlainToken) → form ≡ t ∷ [] → DeclaresVariable portions (t ∷ []) → AreVariables portions (form ∷ []) (t ∷ [])
one_variable_form portions form t e is = subst (λ f. AreVariables portions (f ∷ []) (t ∷ [])) (sym e) (a_word is no_variables)

pub no_variable_form : (portions : List PlainPortion) (form : List PlainToken) → (DeclaresVariable portions form → ⊥) → AreVariables portions (form ∷ []) []
no_variable_form portions form none = a_production none no_variables
