-- The first readings by a production, with each list of words at its binders.
use Rattle.std.proofs.Common.{◌≡◌, ◌≢◌, ◌⊎◌, ◌↔◌, ℕ, ◌+◌, ◌-◌, ◌<◌, ◌≤◌, List, [], ◌∷◌, ◌++◌, length, map, take, drop, inl, inr, refl, ap, ◌∙◌, sym, subst, arith, Some, slice_get, get_or, Result, Ok, Err, OnOk}
use Rattle.std.specs.List.{AllByRecursion}
use Rattle.std.proofs.lemmas.List.{take_more}
use Rattle.binding_terms.specs.Numbered.{AnyByRecursion}
use Rattle.binding_terms.specs.Signature.{Signature, binders}
use Rattle.binding_terms.specs.declared.grammar.Prod.{Prod}
use Rattle.binding_terms.proofs.Lists.{any_front, any_back, any_split}
use Rattle.scheme_terms.specs.SchemeTree.{SchemeTree}
use Rattle.scheme_terms.specs.declared.scheme.MetaDecl.{MetaDecl}
use Rattle.rule_schemes.specs.Reading.{Token, Variable, variables_of}
use Rattle.rule_schemes.specs.Said.{Way, IsBefore}
use Rattle.ordered_readings.specs.Names.{NamesApart}
use Rattle.ordered_readings.specs.Cells.{ReadsTermAt, ReadsItemsAt}
use Rattle.ordered_readings.specs.FirstTwo.{AreFirst}
use Rattle.form_cells.specs.Cells.{IsMade, IsProduct, IsTable, Follows}
use Rattle.form_cells.specs.Words.{words_of, AreOwn}
use Rattle.form_cells.specs.View.{variable}
use Rattle.form_cells.specs.declared.sheet.Sheet.{Sheet}
use Rattle.form_cells.specs.declared.table.Table.{Table}
use Rattle.form_cells.specs.declared.variables.Var.{Var}
use Rattle.form_cells.proofs.Joining.{IsJoined, joined_first, same_first, no_first}
use Rattle.form_cells.proofs.TermLemmas.{all_terms, terms_ordered}

pub still : (sheet : Sheet) (table : Table) → IsTable sheet table → Follows sheet table table
still sheet table h = record { cells = h; scopes = λ n vars s. s }

pub later : {sheet : Sheet} {old mid new : Table} → Follows sheet old mid → Follows sheet mid new → Follows sheet old new
later f g = record { cells = g.cells; scopes = λ n vars s. g.scopes n vars (f.scopes n vars s) }

-- what is so whatever is answered, and what follows
pub on_any : {T E : Type 0} (r : Result T E) (P : Type 0) → P → OnOk r P
on_any (Ok x) P h = h
on_any (Err e) P h = tt

pub on_ok : {T E : Type 0} (r : Result T E) (P Q : Type 0) → (P → Q) → OnOk r P → OnOk r Q
on_ok (Ok x) P Q f h = f h
on_ok (Err e) P Q f h = tt

module _ (sig : Signature) (metas : List MetaDecl) (vars : List Variable) (p c : ℕ) (prod : Prod) (ts : List Token) where
  abbrev pub IsOne : Way → SchemeTree → List Var → Type 0
  IsOne w s one = ReadsItemsAt sig metas vars (map variable one) (words_of one) prod.items (3 + p) p ts w s

  pub none_listed_yet : AreFirst IsBefore (λ w s. AnyByRecursion (IsOne w s) []) []
  none_listed_yet = no_first _ (λ w s h. h)

  own_is : (one : List Var) (words : List (List ℕ)) → AreOwn (binders prod.items) one → words_of one ≡ words → map variable one ≡ variables_of words (binders prod.items)
  own_is one words own e = own ∙ ap (λ ws. variables_of ws (binders prod.items)) e

  -- each list gives readings by the production
  one_product : slice_get sig.prods p ≡ Some prod → prod.cat.0 ≡ c → (all : List (List Var)) → AllByRecursion (AreOwn (binders prod.items)) all
      → (w : Way) (s : SchemeTree) → AnyByRecursion (IsOne w s) all → IsProduct sig metas vars p c ts w s
  one_product found cat [] own w s h = absurd h
  one_product found cat (one ∷ all) own w s (inl r) =
      (prod, found, cat, (words_of one, subst (λ o. ReadsItemsAt sig metas vars o (words_of one) prod.items (3 + p) p ts w s) own.0 r))
  one_product found cat (one ∷ all) own w s (inr h) = one_product found cat all own.1 w s h

  own_front : (all : List (List Var)) (n : ℕ) → AllByRecursion (AreOwn (binders prod.items)) all → AllByRecursion (AreOwn (binders prod.items)) (take n all)
  own_front [] Rattle.std.proofs.Common.zero h = tt
  own_front [] (Rattle.std.proofs.Common.suc n) h = tt
  own_front (one ∷ all) Rattle.std.proofs.Common.zero h = tt
  own_front (one ∷ all) (Rattle.std.proofs.Common.suc n) h = (h.0, own_front all n h.1)

  -- the readings with one list more
  pub one_list_more : NamesApart metas → slice_get sig.prods p ≡ Some prod → prod.cat.0 ≡ c → (all : List (List Var)) (n : ℕ) (one : List Var) → n < length all
      → one ≡ get_or all n one → AllByRecursion (AreOwn (binders prod.items)) all → (xs ys zs : List (Way × SchemeTree))
      → AreFirst IsBefore (λ w s. AnyByRecursion (IsOne w s) (take n all)) xs → AreFirst IsBefore (λ w s. IsOne w s one) ys → IsJoined xs ys zs
      → AreFirst IsBefore (λ w s. AnyByRecursion (IsOne w s) (take (n + 1) all)) zs
  one_list_more apart found cat all n one lt is own xs ys zs f g h =
      joined_first (ReadsTermAt sig metas vars c ts) (λ w s. AnyByRecursion (IsOne w s) (take n all)) (λ w s. IsOne w s one)
      (λ w s. AnyByRecursion (IsOne w s) (take (n + 1) all)) xs ys zs (terms_ordered sig metas vars c ts apart) part both f g h
    where
      more : take (n + 1) all ≡ take n all ++ one ∷ []
      more = take_more all n one lt ∙ ap (λ o. take n all ++ o ∷ []) (sym is)

      part : (w : Way) (s : SchemeTree) → AnyByRecursion (IsOne w s) (take (n + 1) all) → ReadsTermAt sig metas vars c ts w s
      part w s h =
          all_terms sig metas vars c ts w s (p + 1) (inr (inr (inr (p, omega arith, one_product found cat (take (n + 1) all) (own_front all (n + 1) own) w s h))))

      both : (w : Way) (s : SchemeTree) → (AnyByRecursion (IsOne w s) (take n all) ⊎ IsOne w s one) ↔ AnyByRecursion (IsOne w s) (take (n + 1) all)
      both w s = (
        λ k. subst (AnyByRecursion (IsOne w s)) (sym more) (elim k [
          | inl i ↦ any_front (IsOne w s) (take n all) (one ∷ []) i
          | inr i ↦ any_back (IsOne w s) (take n all) (one ∷ []) (inl i)
        ]),
        λ k. elim (any_split (IsOne w s) (take n all) (one ∷ []) (subst (AnyByRecursion (IsOne w s)) more k)) [
          | inl i ↦ inl i
          | inr i ↦ elim i [ inl j ↦ inr j | inr j ↦ absurd j ]
        ],
      )

  pub no_product_of : slice_get sig.prods p ≡ Some prod → (prod.cat.0 ≡ c → ⊥) → AreFirst IsBefore (IsProduct sig metas vars p c ts) []
  no_product_of found other = no_first _ (λ w s h.
      (let two : Some (h.0) ≡ Some prod = sym h.1 ∙ found in
      let same : h.0 ≡ prod = cc in
      other (subst (λ (q : Prod). q.cat.0 ≡ c) same h.2)))

  is_made : slice_get sig.prods p ≡ Some prod → (w : Way) (s : SchemeTree) → IsProduct sig metas vars p c ts w s → IsMade sig metas vars p prod.items ts w s
  is_made found w s h =
      let two : Some (h.0) ≡ Some prod = sym h.1 ∙ found in
      let same : h.0 ≡ prod = cc in
      subst (λ (q : Prod). IsMade sig metas vars p q.items ts w s) same h.3

  pub no_made : slice_get sig.prods p ≡ Some prod
      → ((own : List Variable) (words : List (List ℕ)) (xs : Rattle.scheme_terms.specs.SchemeTree.Parts)
      → Rattle.rule_schemes.specs.Reading.ReadsItems sig metas vars own words prod.items ts xs → ⊥)
      → AreFirst IsBefore (IsProduct sig metas vars p c ts) []
  no_made found none = no_first _ (λ w s h. (let m = is_made found w s h in none (variables_of m.0 (binders prod.items)) m.0 m.1.0 m.1.1))

  -- all lists give all readings
  pub all_lists : slice_get sig.prods p ≡ Some prod → prod.cat.0 ≡ c → (all : List (List Var)) → AllByRecursion (AreOwn (binders prod.items)) all
      → ((words : List (List ℕ)) (own : List Variable) (xs : Rattle.scheme_terms.specs.SchemeTree.Parts)
      → Rattle.rule_schemes.specs.Reading.ReadsItems sig metas vars own words prod.items ts xs → AnyByRecursion (λ one. words_of one ≡ words) all)
      → (xs : List (Way × SchemeTree)) → AreFirst IsBefore (λ w s. AnyByRecursion (IsOne w s) all) xs → AreFirst IsBefore (IsProduct sig metas vars p c ts) xs
  all_lists found cat all own complete xs f =
      same_first (λ w s. AnyByRecursion (IsOne w s) all) (IsProduct sig metas vars p c ts) xs (λ w s. (one_product found cat all own w s, back w s)) f
    where
      there : (words : List (List ℕ)) (w : Way) (s : SchemeTree) → ReadsItemsAt sig metas vars (variables_of words (binders prod.items)) words prod.items (3 + p) p ts w s
          → (ones : List (List Var)) → AllByRecursion (AreOwn (binders prod.items)) ones → AnyByRecursion (λ one. words_of one ≡ words) ones → AnyByRecursion (IsOne w s) ones
      there words w s r [] o h = h
      there words w s r (one ∷ ones) o (inl e) =
          inl (subst (λ vs. ReadsItemsAt sig metas vars vs (words_of one) prod.items (3 + p) p ts w s) (sym o.0)
          (subst (λ ws. ReadsItemsAt sig metas vars (variables_of ws (binders prod.items)) ws prod.items (3 + p) p ts w s) (sym e) r))
      there words w s r (one ∷ ones) o (inr h) = inr (there words w s r ones o.1 h)

      back : (w : Way) (s : SchemeTree) → IsProduct sig metas vars p c ts w s → AnyByRecursion (IsOne w s) all
      back w s h = let m = is_made found w s h in there m.0 w s m.1 all own (complete m.0 (variables_of m.0 (binders prod.items)) m.1.0 m.1.1)
