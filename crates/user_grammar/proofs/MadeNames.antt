-- The names of a grammar without a fault have no common spelling.
use Rattle.std.proofs.Common.{◌≡◌, ℕ, List, [], ◌∷◌, ◌++◌, map, Option, None, Some, refl, ap, ◌∙◌, sym, inl, inr, arith}
use Rattle.std.proofs.lemmas.List.{append_assoc}
use Rattle.std.proofs.lemmas.List.Elements.{Contains-append_right}
use Rattle.std.specs.List.{AllByRecursion, Contains}
use Rattle.sy_base.specs.Tokens.{PlainToken}
use Rattle.sy_base.specs.declared.fault.Code.TheVariants as code
use Rattle.binding_terms.specs.declared.grammar.Cat.{Cat}
use Rattle.outline_reader.specs.Plain.{PlainPortion, terminals, category}
use Rattle.user_grammar.specs.File.{listed}
use Rattle.user_grammar.specs.Names.{names_if, names, category_names, variable_names, AreApart, AllApart}
use Rattle.user_grammar.specs.Fault.{Sort, a_terminal, a_category, a_variable, Declared, declared_as, IsSpelledBy, category_texts, DeclaresVariable, AreVariables, no_variables, a_word, a_production, DeclaresHere, DeclareAll, common_spelling, duplicate, HasNoFault}
use Rattle.user_grammar.proofs.MadeDecided.{Decided, variable_decided}
use Rattle.binding_terms.proofs.Lists.{all_append, all_front, all_right}

-- ---- names in text order

-- the names of the categories, each with its variable behind it
abbrev pub told_names : List Cat → List (List ℕ)
told_names [] = []
told_names (cat ∷ cats) = cat.name ∷ (names_if cat.var ++ told_names cats)

told_apart : (P : List ℕ → Type 0) (cats : List Cat) → AllByRecursion P (told_names cats) → AllByRecursion P (category_names cats) × AllByRecursion P (variable_names cats)
told_apart P [] all = (tt, tt)
told_apart P (cat ∷ cats) all =
    let rest = told_apart P cats (all_right P (names_if cat.var) (told_names cats) all.1) in
    ((all.0, rest.0), all_append P (names_if cat.var) (variable_names cats) (all_front P (names_if cat.var) (told_names cats) all.1) rest.1)

pub told_all : (P : List ℕ → Type 0) (cats : List Cat) → AllByRecursion P (told_names cats) → AllByRecursion P (names cats)
told_all P cats all = let parts = told_apart P cats all in all_append P (category_names cats) (variable_names cats) parts.0 parts.1

other_way : (one other : List ℕ) → AreApart one other → AreApart other one
other_way one other apart = record { nothing_common = λ word spells also. apart.nothing_common word also spells }

-- each of the names is apart from each of the others
abbrev pub Across : List (List ℕ) → List (List ℕ) → Type 0
Across some others = AllByRecursion (λ (name : List ℕ). AllByRecursion (AreApart name) others) some

across_one : (name : List ℕ) (some others : List (List ℕ)) → AllByRecursion (AreApart name) some → Across some others → Across some (name ∷ others)
across_one name [] others apart across = tt
across_one name (one ∷ some) others apart across = ((other_way name one apart.0, across.0), across_one name some others apart.1 across.1)

joined_apart : (some others : List (List ℕ)) → AllApart some → AllApart others → Across some others → AllApart (some ++ others)
joined_apart [] others one other across = other
joined_apart (name ∷ some) others one other across =
    (all_append (AreApart name) some others one.0 across.0, joined_apart some others one.1 other across.1)

-- the parts of the names in text order
pub record PartsApart (cats : List Cat) : Type 0 where
  pub categories : AllApart (category_names cats)
  pub variables : AllApart (variable_names cats)
  pub across : Across (category_names cats) (variable_names cats)

parts_further : (cat : Cat) (cats : List Cat) → (AllApart (told_names cats) → PartsApart cats) → (var : Option (List ℕ))
    → AllApart (cat.name ∷ (names_if var ++ told_names cats)) → PartsApart (record { name = cat.name; var = var; context = cat.context } ∷ cats)
parts_further cat cats others None apart =
    let rest = others apart.1 in
    let own = told_apart (AreApart cat.name) cats apart.0 in
    record { categories = (own.0, rest.categories); variables = rest.variables; across = (own.1, rest.across) }
parts_further cat cats others (Some name) apart =
    let rest = others apart.1.1 in
    let own = told_apart (AreApart cat.name) cats apart.0.1 in
    let vars = told_apart (AreApart name) cats apart.1.0 in
    record {
      categories = (own.0, rest.categories);
      variables = (vars.1, rest.variables);
      across = ((apart.0.0, own.1), across_one name (category_names cats) (variable_names cats) vars.0 rest.across);
    }

parts_apart : (cats : List Cat) → AllApart (told_names cats) → PartsApart cats
parts_apart [] apart = record { categories = tt; variables = tt; across = tt }
parts_apart (cat ∷ cats) apart = parts_further cat cats (λ rest. parts_apart cats rest) cat.var apart

pub names_apart : (cats : List Cat) → AllApart (told_names cats) → AllApart (names cats)
names_apart cats apart =
    let parts = parts_apart cats apart in joined_apart (category_names cats) (variable_names cats) parts.categories parts.variables parts.across

-- ---- what is declared

-- two that are declared have no common spelling
pub record Differ (one : Sort) (text : List ℕ) (other : Sort) (also : List ℕ) : Type 0 where
  pub nothing_common : (word : List ℕ) → IsSpelledBy one text word → IsSpelledBy other also word → ⊥

abbrev pub DiffersFrom : Declared → Declared → Type 0
DiffersFrom d e = Differ d.sort d.token.text e.sort e.token.text

abbrev pub AllDeclaredDiffer : List Declared → Type 0
AllDeclaredDiffer [] = Unit {0}
AllDeclaredDiffer (d ∷ ds) = AllByRecursion (DiffersFrom d) ds × AllDeclaredDiffer ds

module _ (portions : List PlainPortion) where
  pub variables_there : (forms : List (List PlainToken)) → (tokens : List PlainToken) × AreVariables portions forms tokens
  variables_there [] = ([], no_variables)
  variables_there (form ∷ forms) = by_case form (variable_decided (category_texts portions) (listed portions) form) (variables_there forms)
    where
      by_case : (form : List PlainToken) → Decided (DeclaresVariable portions form) → (tokens : List PlainToken) × AreVariables portions forms tokens
          → (tokens : List PlainToken) × AreVariables portions (form ∷ forms) tokens
      by_case form (inr not) rest = (rest.0, a_production not rest.1)
      by_case [] (inl is) rest = absurd is
      by_case (token ∷ other ∷ form) (inl is) rest = absurd is
      by_case (token ∷ []) (inl is) rest = (token ∷ rest.0, a_word is rest.1)

  declares : (portion : PlainPortion) → (ds : List Declared) × DeclaresHere portions portion ds
  declares (terminals first tokens) = (map (declared_as a_terminal) tokens, refl)
  declares (category name mark forms) =
      let vars = variables_there forms in (declared_as a_category name ∷ map (declared_as a_variable) vars.0, (vars.0, vars.1, refl))
  declares _ = ([], refl)

  pub all_declared : (some : List PlainPortion) → (ds : List Declared) × DeclareAll portions some ds
  all_declared [] = ([], refl)
  all_declared (portion ∷ rest) =
      let here = declares portion in let others = all_declared rest in (here.0 ++ others.0, (here.0, others.0, refl, here.1, others.1))

  module _ (all : List Declared) (is_all : DeclareAll portions portions all) (no_fault : HasNoFault portions) where
    differs : (front : List Declared) (d : Declared) (mid ds : List Declared) → all ≡ front ++ d ∷ (mid ++ ds) → AllByRecursion (DiffersFrom d) ds
    differs front d mid [] split = tt
    differs front d mid (e ∷ ds) split =
        let splits : all ≡ (front ++ d ∷ mid) ++ e ∷ ds = split ∙ sym (append_assoc front (d ∷ mid) (e ∷ ds)) in
        let earlier : Contains (front ++ d ∷ mid) d = Contains-append_right front (d ∷ mid) d (0, (omega arith), refl) in
        let further : all ≡ front ++ d ∷ ((mid ++ e ∷ []) ++ ds) = split ∙ ap (λ (xs : List Declared). front ++ d ∷ xs) (sym (append_assoc mid (e ∷ []) ds)) in (
          record {
            nothing_common = λ word one other. no_fault code.Duplicate e.token e.token.text
                (duplicate refl refl (common_spelling all (front ++ d ∷ mid) ds e.sort d word is_all splits earlier one other));
          },
          differs front d (mid ++ e ∷ []) ds further,
        )

    differ_from : (front ds : List Declared) → all ≡ front ++ ds → AllDeclaredDiffer ds
    differ_from front [] split = tt
    differ_from front (d ∷ ds) split =
        (differs front d [] ds split, differ_from (front ++ d ∷ []) ds (split ∙ sym (append_assoc front (d ∷ []) ds)))

    pub declared_differ : AllDeclaredDiffer all
    declared_differ = differ_from [] all refl
