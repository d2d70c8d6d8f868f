-- What was declared so far, with look-up of the listed terminals.
use Rattle.std.proofs.Common.{◌≡◌, ◌↔◌, Bool, true, false, IsTrue, ◌⊎◌, ◌<◌, ◌+◌, ◌++◌, ℕ, List, [], ◌∷◌, map, length, get_or, take, refl, ap, ◌∙◌, sym, subst, inl, inr, Option}
use Rattle.std.specs.List.{flat_map}
use Rattle.std.proofs.lemmas.Grind.{flat_map-append}
use Rattle.std.proofs.lemmas.List.{append-nil, map-append}
use Rattle.binding_terms.specs.Numbered.{AnyByRecursion}
use Rattle.sy_base.specs.Tokens.{PlainToken}
use Rattle.sy_base.specs.declared.fault.Code.TheVariants.{Duplicate}
use Rattle.user_grammar.specs.Names.{IsAmong}
use Rattle.user_grammar.specs.Indexed.{HaveSame, IsAdded, names_in}
use Rattle.user_grammar.specs.Fault.{Sort, a_terminal, a_category, a_variable, Declared, declared_as}
use Rattle.user_grammar.specs.Finding.{IsLeast, AtToken, HaveCommon, HaveSeen, IsCommon, declaration_view, words_if, terminal_words, alone_if, names_alone, LentFault}
use Rattle.user_grammar.specs.declared.fault_declared.Declaration.{Declaration}
use Rattle.user_grammar.specs.declared.fault_declared.Seen.{Seen}
use Rattle.user_grammar.specs.declared.name_index.NameIndex.{NameIndex}
use Rattle.std.specs.Result.{OnOk}
use Rattle.std.specs.declared.result.Result.{Result}
use Rattle.indexmap.proofs.MapLemmas.{OnOk-map}
use Rattle.user_grammar.proofs.Tests.{refused}
use Rattle.user_grammar.proofs.FaultDeclared.{one_more}
use Rattle.user_grammar.proofs.NameIndexes.{same_one_more}

-- the declared words that have a common spelling with a listed terminal
abbrev Meets : PlainToken → Declared → Type 0
Meets t e = HaveCommon e (declared_as a_terminal t)

terminals_meet : (u t : PlainToken) → Meets t (declared_as a_terminal u) → u.text ≡ t.text
terminals_meet u t h = sym h.one_spelled ∙ h.other_spelled

first_meets : (s : Sort) (u t : PlainToken) (es : List Declared)
    → (AnyByRecursion (Meets t) es ↔ (IsAmong (flat_map terminal_words es) t.text ⊎ AnyByRecursion (Meets t) (flat_map names_alone es)))
    → AnyByRecursion (Meets t) (declared_as s u ∷ es)
    ↔ (IsAmong (words_if s u ++ flat_map terminal_words es) t.text ⊎ AnyByRecursion (Meets t) (alone_if s u ++ flat_map names_alone es))
first_meets a_terminal u t es rest = (
  (λ any. elim any [
    | inl h ↦ inl (inl (terminals_meet u t h))
    | inr more ↦ elim (rest.0 more) [ inl l ↦ inl (inr l) | inr r ↦ inr r ]
  ]),
  (λ either. elim either [
    | inl among ↦ elim among [
      | inl same ↦ inl (record { word = t.text; one_spelled = sym same; other_spelled = refl })
      | inr l ↦ inr (rest.1 (inl l))
    ]
    | inr r ↦ inr (rest.1 (inr r))
  ]),
)
first_meets a_category u t es rest = (
  (λ any. elim any [
    | inl h ↦ inr (inl h)
    | inr more ↦ elim (rest.0 more) [ inl l ↦ inl l | inr r ↦ inr (inr r) ]
  ]),
  (λ either. elim either [
    | inl l ↦ inr (rest.1 (inl l))
    | inr r ↦ elim r [ inl h ↦ inl h | inr more ↦ inr (rest.1 (inr more)) ]
  ]),
)
first_meets a_variable u t es rest = (
  (λ any. elim any [
    | inl h ↦ inr (inl h)
    | inr more ↦ elim (rest.0 more) [ inl l ↦ inl l | inr r ↦ inr (inr r) ]
  ]),
  (λ either. elim either [
    | inl l ↦ inr (rest.1 (inl l))
    | inr r ↦ elim r [ inl h ↦ inl h | inr more ↦ inr (rest.1 (inr more)) ]
  ]),
)

-- they are the same listed terminal, or categories and variables
some_meet : (t : PlainToken) (es : List Declared)
    → AnyByRecursion (Meets t) es ↔ (IsAmong (flat_map terminal_words es) t.text ⊎ AnyByRecursion (Meets t) (flat_map names_alone es))
some_meet t [] = ((λ any. absurd any), (λ either. elim either [ inl l ↦ absurd l | inr r ↦ absurd r ]))
some_meet t (e ∷ es) = first_meets e.sort e.token t es (some_meet t es)

-- a terminal that is listed before
pub seen_listed : (s : Sort) (t : PlainToken) (seen : Seen) (p : Bool) (word : List ℕ) → s ≡ a_terminal → word ≡ t.text → (IsTrue p ↔ IsAmong (names_in seen.terminals) word) → p ≡ true
    → (before : List Declared) → HaveSeen before seen → IsTrue true ↔ AnyByRecursion (λ e. HaveCommon e (declared_as s t)) before
seen_listed s t seen p word is same listed yes_is before have =
    subst (λ r. IsTrue true ↔ AnyByRecursion (λ e. HaveCommon e (declared_as r t)) before) (sym is) (
      (λ go. (some_meet t before).1 (inl ((have.terminals t.text).0 (subst (IsAmong (names_in seen.terminals)) same (listed.0 yes_is))))),
      (λ any. refl),
    )

-- one that is not
pub seen_spelled : (s : Sort) (t : PlainToken) (seen : Seen) (p r : Bool) (word : List ℕ) → s ≡ a_terminal → word ≡ t.text → (IsTrue p ↔ IsAmong (names_in seen.terminals) word) → p ≡ false
    → (IsTrue r ↔ AnyByRecursion (λ e. HaveCommon e (declared_as s t)) (map declaration_view seen.names.items))
    → (before : List Declared) → HaveSeen before seen → IsTrue r ↔ AnyByRecursion (λ e. HaveCommon e (declared_as s t)) before
seen_spelled s t seen p r word is same listed none names before have =
    let spelled : IsTrue r ↔ AnyByRecursion (Meets t) (flat_map names_alone before) =
    subst (λ ds. IsTrue r ↔ AnyByRecursion (Meets t) ds) have.names
    (subst (λ q. IsTrue r ↔ AnyByRecursion (λ e. HaveCommon e (declared_as q t)) (map declaration_view seen.names.items)) is names) in
    subst (λ q. IsTrue r ↔ AnyByRecursion (λ e. HaveCommon e (declared_as q t)) before) (sym is) (
      (λ go. (some_meet t before).1 (inr (spelled.0 go))),
      (λ any. elim ((some_meet t before).0 any) [
        | inl l ↦ absurd (refused p listed none (subst (IsAmong (names_in seen.terminals)) (sym same) ((have.terminals t.text).1 l)))
        | inr m ↦ spelled.1 m
      ]),
    )

-- ---- one declaration more

words_more : (before : List Declared) (s : Sort) (t : PlainToken) → flat_map terminal_words (before ++ declared_as s t ∷ []) ≡ flat_map terminal_words before ++ words_if s t
words_more before s t = flat_map-append terminal_words before (declared_as s t ∷ []) ∙ ap (λ ws. flat_map terminal_words before ++ ws) (append-nil (words_if s t))

names_more : (before : List Declared) (s : Sort) (t : PlainToken) → flat_map names_alone (before ++ declared_as s t ∷ []) ≡ flat_map names_alone before ++ alone_if s t
names_more before s t = flat_map-append names_alone before (declared_as s t ∷ []) ∙ ap (λ ds. flat_map names_alone before ++ ds) (append-nil (alone_if s t))

pub see_terminal : (s : Sort) (t : PlainToken) (word : List ℕ) (old new : Seen) → s ≡ a_terminal → word ≡ t.text → IsAdded (names_in old.terminals) word (names_in new.terminals)
    → new.names.items ≡ old.names.items → (before : List Declared) → HaveSeen before old → HaveSeen (before ++ declared_as s t ∷ []) new
see_terminal s t word old new is same added names before have =
    subst (λ r. HaveSeen (before ++ declared_as r t ∷ []) new) (sym is) (record {
      terminals = subst (HaveSame (names_in new.terminals)) (sym (words_more before a_terminal t))
          (same_one_more (names_in old.terminals) (flat_map terminal_words before) t.text (names_in new.terminals)
          (subst (λ w. IsAdded (names_in old.terminals) w (names_in new.terminals)) same added) have.terminals);
      names = ap (map declaration_view) names ∙ have.names ∙ sym (names_more before a_terminal t ∙ append-nil (flat_map names_alone before));
    })

-- of a category or a variable
other_words : (s : Sort) (t : PlainToken) → (s ≡ a_category) ⊎ (s ≡ a_variable) → (words_if s t ≡ []) × (alone_if s t ≡ declared_as s t ∷ [])
other_words s t (inl is) = subst (λ r. (words_if r t ≡ []) × (alone_if r t ≡ declared_as r t ∷ [])) (sym is) (refl, refl)
other_words s t (inr is) = subst (λ r. (words_if r t ≡ []) × (alone_if r t ≡ declared_as r t ∷ [])) (sym is) (refl, refl)

pub see_name : (d : Declaration) (old new : Seen) → ((declaration_view d).sort ≡ a_category) ⊎ ((declaration_view d).sort ≡ a_variable) → new.terminals ≡ old.terminals
    → new.names.items ≡ old.names.items ++ d ∷ [] → (before : List Declared) → HaveSeen before old → HaveSeen (before ++ declaration_view d ∷ []) new
see_name d old new is terminals names before have =
    let x = declaration_view d in let other = other_words x.sort x.token is in
    record {
      terminals = subst (λ (index : NameIndex). HaveSame (names_in index) (flat_map terminal_words (before ++ x ∷ []))) (sym terminals)
          (subst (HaveSame (names_in old.terminals))
          (sym (words_more before x.sort x.token ∙ ap (λ ws. flat_map terminal_words before ++ ws) other.0 ∙ append-nil (flat_map terminal_words before))) have.terminals);
      names = ap (map declaration_view) names ∙ map-append declaration_view old.names.items (d ∷ []) ∙ ap (λ ds. ds ++ x ∷ []) have.names
          ∙ sym (names_more before x.sort x.token ∙ ap (λ ds. flat_map names_alone before ++ ds) other.1);
    }

pub see_terminal_ok : {T E : Type 0} (r : Result T E) (s : Sort) (t : PlainToken) (word : List ℕ) (old new : Seen) → s ≡ a_terminal → word ≡ t.text → new.names.items ≡ old.names.items
    → OnOk r (IsAdded (names_in old.terminals) word (names_in new.terminals)) → OnOk r ((before : List Declared) → HaveSeen before old → HaveSeen (before ++ declared_as s t ∷ []) new)
see_terminal_ok r s t word old new is same names added =
    OnOk-map r (IsAdded (names_in old.terminals) word (names_in new.terminals)) ((before : List Declared) → HaveSeen before old → HaveSeen (before ++ declared_as s t ∷ []) new)
    (λ there. see_terminal s t word old new is same there names) added

pub seen_more : (xs : List Declaration) (i : ℕ) (d : Declaration) (f r : Option LentFault) (old new : Seen) → i < length xs
    → (IsLeast (AtToken Duplicate (IsCommon (map declaration_view (take i xs)))) f
    → IsLeast (AtToken Duplicate (IsCommon (map declaration_view (take i xs) ++ declaration_view (get_or xs i d) ∷ []))) r)
    → ((before : List Declared) → HaveSeen before old → HaveSeen (before ++ declaration_view (get_or xs i d) ∷ []) new)
    → IsLeast (AtToken Duplicate (IsCommon (map declaration_view (take i xs)))) f × HaveSeen (map declaration_view (take i xs)) old
    → IsLeast (AtToken Duplicate (IsCommon (map declaration_view (take (i + 1) xs)))) r × HaveSeen (map declaration_view (take (i + 1) xs)) new
seen_more xs i d f r old new lt found see both =
    subst (λ ds. IsLeast (AtToken Duplicate (IsCommon ds)) r × HaveSeen ds new) (one_more xs i d lt) (found both.0, see (map declaration_view (take i xs)) both.1)
