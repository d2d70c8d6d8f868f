-- The trees of names that are cited.
use Rattle.std.proofs.Common.{◌≡◌, ◌<◌, ℕ, ◌==◌, Bool, ◌&&◌, IsTrue, List, [], ◌∷◌, ◌++◌, length, map, refl, ap, ◌∙◌, sym, subst, arith, true, false, cond, Some, None, nat_eq, if◌then◌else◌, option_map, append-nil, codes, true≢false}
use Rattle.std.specs.Prelude.{Option}
use Rattle.std.specs.List.{AllByRecursion, AllZip, find}
use Rattle.std.specs.Str.{bytes_eq}
use Rattle.std.proofs.lemmas.Bool.{eqb-true}
use Rattle.proof_lexer.specs.declared.token.Token.{Token}
use Rattle.rule_schemes.specs.Rules.{Theory}
use Rattle.rule_schemes.specs.Derivation.{Derivation, Derives}
use Rattle.rule_schemes.specs.Reading.{word, punctuation}
use Rattle.rule_schemes.specs.Reading.{Token as Read}
use Rattle.term_reader.specs.View.{token}
use Rattle.derivation_text.specs.Forms.{is_name, AreNames, further_names, on_tokens}
use Rattle.derivation_text.specs.Valid.{tree_named}
use Rattle.derivation_text.specs.Found as found
use Rattle.derivation_text.specs.declared.derivs.Named.{Named}
use Rattle.derivation_text.proofs.NodeLemmas.{and_left, and_right, name_is_word, same_bytes}
use Rattle.binding_terms.proofs.Lists.{if_some}

-- at the end of the further names
pub further_end : (known : List Named) (trees : List Derivation) (rest : List Token) → length rest < 2
    → (if nat_eq (length rest) 0 then Some trees else None) ≡ option_map (λ ds. trees ++ ds) (found.further_trees known (map token rest))
further_end known trees [] short = ap Some (sym (append-nil trees))
further_end known trees (t ∷ []) short = refl
further_end known trees (t ∷ (u ∷ ts)) short = absurd (omega arith)

pub if_true : {A : Type 0} (b : Bool) (x y : A) → IsTrue b → (if b then x else y) ≡ x
if_true true x y h = refl
if_true false x y h = absurd (true≢false (sym h))

pub with_some : {A : Type 0} (o : Option A) (rest : Option (List A)) {ys : List A} → found.with_first o rest ≡ Some ys → (a : A) × (as_is : List A) × (o ≡ Some a) × (rest ≡ Some as_is) × (ys ≡ a ∷ as_is)
with_some None rest e = absurd (cc)
with_some (Some a) None e = absurd (cc)
with_some (Some a) (Some all) {ys} e = (a, all, refl, refl, (let h : Some (a ∷ all) ≡ Some ys = e in cc))

pub comma_is : (c : Read) → IsTrue ((c.0 == 2) && bytes_eq c.1 (44 ∷ [])) → c ≡ punctuation 44
comma_is c h =
    let kind : c.0 ≡ 2 = eqb-true c.0 2 (and_left (c.0 == 2) (bytes_eq c.1 (44 ∷ [])) h) in
    let text : c.1 ≡ 44 ∷ [] = same_bytes c.1 (44 ∷ []) (and_right (c.0 == 2) (bytes_eq c.1 (44 ∷ [])) h) in
    λ i. (kind i, text i)

pub on_is : (c : Read) → IsTrue ((c.0 == 0) && bytes_eq c.1 (codes "on")) → c ≡ word (codes "on")
on_is c h =
    let kind : c.0 ≡ 0 = eqb-true c.0 0 (and_left (c.0 == 0) (bytes_eq c.1 (codes "on")) h) in
    let text : c.1 ≡ codes "on" = same_bytes c.1 (codes "on") (and_right (c.0 == 0) (bytes_eq c.1 (codes "on")) h) in
    λ i. (kind i, text i)

module _ (known : List Named) where
  abbrev pub IsTreeOf : List ℕ → Derivation → Type 0
  IsTreeOf w d = tree_named known w ≡ Some d

  -- the tokens are these names after one another, which have these trees
  pub record Cites (spelled : List (List ℕ) → List Read) (ts : List Read) (ds : List Derivation) : Type 0 where
    pub names : List (List ℕ)
    pub tokens_are : ts ≡ spelled names
    pub are_names : AreNames names
    pub trees : AllZip IsTreeOf names ds

  further_from : (ts : List Read) (ds : List Derivation) → found.further_trees known ts ≡ Some ds → Cites further_names ts ds
  further_from [] ds e =
      let none : [] ≡ ds = (let h : Some [] ≡ Some ds = e in cc) in
      record { names = []; tokens_are = refl; are_names = tt; trees = subst (AllZip IsTreeOf []) none tt }
  further_from (c ∷ []) ds e = absurd (cc)
  further_from (c ∷ (t ∷ ts)) ds e =
      let comma = if_some ((c.0 == 2) && bytes_eq c.1 (44 ∷ [])) (found.with_first (found.tree_at known t) (found.further_trees known ts)) e in
      let parts = with_some (found.tree_at known t) (found.further_trees known ts) comma.1 in
      let rest = further_from ts parts.1 parts.3 in
      let here = if_some (found.is_name_token t) (tree_named known t.1) parts.2 in
      let name = name_is_word t here.0 in
      let ec = comma_is c comma.0 in
      let et : t ≡ word t.1 = name.0 in
      record {
        names = t.1 ∷ rest.names;
        tokens_are = λ i. ec i ∷ (et i ∷ rest.tokens_are i);
        are_names = (name.1, rest.are_names);
        trees = subst (AllZip IsTreeOf (t.1 ∷ rest.names)) (sym parts.4) (here.1, rest.trees);
      }

  tree_at_name : (w : List ℕ) (d : Derivation) → IsTrue (is_name w) → tree_named known w ≡ Some d → found.tree_at known (word w) ≡ Some d
  tree_at_name w d h e = if_true (is_name w) (tree_named known w) None h ∙ e

  further_to : (ws : List (List ℕ)) (ds : List Derivation) → AreNames ws → AllZip IsTreeOf ws ds → found.further_trees known (further_names ws) ≡ Some ds
  further_to [] [] names trees = refl
  further_to [] (d ∷ ds) names trees = absurd trees
  further_to (w ∷ ws) [] names trees = absurd trees
  further_to (w ∷ ws) (d ∷ ds) names trees =
      let first = tree_at_name w d names.0 trees.0 in
      let rest = further_to ws ds names.1 trees.1 in
      λ i. found.with_first (first i) (rest i)

  pub cited_from : (ts : List Read) (ds : List Derivation) → found.cited_trees known ts ≡ Some ds → Cites on_tokens ts ds
  cited_from [] ds e =
      let none : [] ≡ ds = (let h : Some [] ≡ Some ds = e in cc) in
      record { names = []; tokens_are = refl; are_names = tt; trees = subst (AllZip IsTreeOf []) none tt }
  cited_from (c ∷ []) ds e =
      let nothing : Option (List Derivation) = None in
      let on = if_some ((c.0 == 0) && bytes_eq c.1 (codes "on")) nothing e in
      absurd (let h : nothing ≡ Some ds = on.1 in cc)
  cited_from (c ∷ (t ∷ ts)) ds e =
      let on = if_some ((c.0 == 0) && bytes_eq c.1 (codes "on")) (found.with_first (found.tree_at known t) (found.further_trees known ts)) e in
      let parts = with_some (found.tree_at known t) (found.further_trees known ts) on.1 in
      let rest = further_from ts parts.1 parts.3 in
      let here = if_some (found.is_name_token t) (tree_named known t.1) parts.2 in
      let name = name_is_word t here.0 in
      let ec = on_is c on.0 in
      let et : t ≡ word t.1 = name.0 in
      record {
        names = t.1 ∷ rest.names;
        tokens_are = λ i. ec i ∷ (et i ∷ rest.tokens_are i);
        are_names = (name.1, rest.are_names);
        trees = subst (AllZip IsTreeOf (t.1 ∷ rest.names)) (sym parts.4) (here.1, rest.trees);
      }

  pub cited_to : (ws : List (List ℕ)) (ds : List Derivation) → AreNames ws → AllZip IsTreeOf ws ds → found.cited_trees known (on_tokens ws) ≡ Some ds
  cited_to [] [] names trees = refl
  cited_to [] (d ∷ ds) names trees = absurd trees
  cited_to (w ∷ ws) [] names trees = absurd trees
  cited_to (w ∷ ws) (d ∷ ds) names trees =
      let first = tree_at_name w d names.0 trees.0 in
      let rest = further_to ws ds names.1 trees.1 in
      λ i. found.with_first (first i) (rest i)

found_here : (th : Theory) (one : Named) (rest : Option Named) (d : Derivation) (b : Bool) → Derives th one.tree → (option_map (λ (x : Named). x.tree) rest ≡ Some d → Derives th d)
    → option_map (λ (x : Named). x.tree) (cond b (Some one) rest) ≡ Some d → Derives th d
found_here th one rest d true here later h = subst (Derives th) (let k : Some one.tree ≡ Some d = h in cc) here
found_here th one rest d false here later h = later h

pub found_derives : (th : Theory) (known : List Named) (w : List ℕ) (d : Derivation) → found.AllDerive th known → tree_named known w ≡ Some d → Derives th d
found_derives th [] w d all e = absurd (cc)
found_derives th (one ∷ known) w d all e =
    found_here th one (find (λ x. bytes_eq x.name w) known) d (bytes_eq one.name w) all.0 (found_derives th known w d all.1) e

pub cited_derive : (th : Theory) (known : List Named) (ws : List (List ℕ)) (ds : List Derivation) → found.AllDerive th known → AllZip (IsTreeOf known) ws ds → AllByRecursion (Derives th) ds
cited_derive th known [] [] all trees = tt
cited_derive th known [] (d ∷ ds) all trees = absurd trees
cited_derive th known (w ∷ ws) [] all trees = absurd trees
cited_derive th known (w ∷ ws) (d ∷ ds) all trees = (found_derives th known w d all trees.0, cited_derive th known ws ds all trees.1)
