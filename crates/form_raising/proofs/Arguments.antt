-- Raised arguments, one by one.
use Rattle.std.proofs.Common.{◌≡◌, ℕ, ◌+◌, ◌-◌, ◌<◌, Bool, true, false, IsTrue, List, [], ◌∷◌, ◌++◌, length, map, take, drop, get_or, slice_get, if◌then◌else◌, refl, ap, ◌∙◌, sym, arith, length-drop}
use Rattle.std.proofs.lemmas.List.{drop_more, take_more, length-map, map-append, append_assoc}
use Rattle.binding_terms.specs.declared.grammar.CatId.{CatId}
use Rattle.scheme_terms.specs.SchemeTree.{SchemeTree, meta, local, Values, value, values, part}
use Rattle.scheme_terms.specs.View.{parts_of, scheme_entry, scheme, scheme_level, part_level}
use Rattle.scheme_terms.specs.declared.scheme.Scheme.{Scheme}
use Rattle.scheme_terms.specs.declared.scheme.Scheme.TheVariants.{Meta, Local, rolls-Meta, rolls-Local}
use Rattle.scheme_terms.specs.declared.scheme.Scheme.TheOpen.{Scheme-F}
use Rattle.scheme_terms.specs.declared.scheme.Scheme.TheFolds.{fold-roll-Scheme}
use Rattle.scheme_terms.specs.declared.scheme.SEntry.{SEntry}
use Rattle.scheme_terms.specs.declared.scheme.MetaId.{MetaId}
use Rattle.scheme_terms.specs.declared.scheme.MetaDecl.{MetaDecl}
use Rattle.binding_terms.specs.Signature.{Signature, Reaches}
use Rattle.rule_schemes.specs.Raising.{TestsReach, with_entries, with_entries_of, raised, raised_values, raised_parts, raised_entries}
use Rattle.form_raising.specs.Before.{before}

-- a test of reach says what any other says
pub same_test : (sig : Signature) (reaches : ℕ → ℕ → Bool) → TestsReach sig reaches → (c v : ℕ) (b : Bool) → (IsTrue b → Reaches sig c v) → (Reaches sig c v → IsTrue b)
    → reaches c v ≡ b
same_test sig reaches tests c v b to from = both (reaches c v) b (λ h. from ((tests c v).0 h)) (λ h. (tests c v).1 (to h))
  where
    both : (a b : Bool) → (IsTrue a → IsTrue b) → (IsTrue b → IsTrue a) → a ≡ b
    both true true f g = refl
    both true false f g = sym (f refl)
    both false true f g = g refl
    both false false f g = refl

pub before_more : (xs ys : List SchemeTree) (w : Values) → before (xs ++ ys) w ≡ before xs (before ys w)
before_more [] ys w = refl
before_more (x ∷ xs) ys w = ap (value x) (before_more xs ys w)

pub values_before : (xs ys : List SchemeTree) → values (xs ++ ys) ≡ before xs (values ys)
values_before [] ys = refl
values_before (x ∷ xs) ys = ap (value x) (values_before xs ys)

-- an entry's variable that is reached, and one that is not
pub entry_reached : (reaches : ℕ → ℕ → Bool) (c v : ℕ) (vs : List ℕ) (n : ℕ) (w : Values) → reaches c v ≡ true
    → with_entries reaches c (v ∷ vs) n w ≡ value (local (length vs + n)) (with_entries reaches c vs n w)
entry_reached reaches c v vs n w h =
    ap (λ b. if b then value (local (length vs + n)) (with_entries reaches c vs n w) else with_entries reaches c vs n w) h

pub entry_passed : (reaches : ℕ → ℕ → Bool) (c v : ℕ) (vs : List ℕ) (n : ℕ) (w : Values) → reaches c v ≡ false
    → with_entries reaches c (v ∷ vs) n w ≡ with_entries reaches c vs n w
entry_passed reaches c v vs n w h =
    ap (λ b. if b then value (local (length vs + n)) (with_entries reaches c vs n w) else with_entries reaches c vs n w) h

module _ (reaches : ℕ → ℕ → Bool) (ms : List MetaDecl) (vs : List ℕ) where
  pub values_raised : (n : ℕ) (ss : List SchemeTree) → values (map (raised reaches ms vs n) ss) ≡ raised_values reaches ms vs n (values ss)
  values_raised n [] = refl
  values_raised n (s ∷ ss) = ap (value (raised reaches ms vs n s)) (values_raised n ss)

  abbrev pub raised_part : (locals : ℕ) → ℕ × SchemeTree → ℕ × SchemeTree
  raised_part n a = (a.0, raised reaches ms vs (n + a.0) a.1)

  pub parts_raised : (n : ℕ) (xs : List (ℕ × SchemeTree)) → parts_of (map (raised_part n) xs) ≡ raised_parts reaches ms vs n (parts_of xs)
  parts_raised n [] = refl
  parts_raised n (x ∷ xs) = ap (part x.0 (raised reaches ms vs (n + x.0) x.1)) (parts_raised n xs)

-- a name on its entries' variables and its raised arguments
pub meta_raised : (reaches : ℕ → ℕ → Bool) (ms : List MetaDecl) (vs : List ℕ) (n m : ℕ) (own given : List SchemeTree) (args : Values)
    → ((w : Values) → before own w ≡ with_entries_of reaches (slice_get ms m) vs n w) → values given ≡ raised_values reaches ms vs n args
    → meta m (values (own ++ given)) ≡ raised reaches ms vs n (meta m args)
meta_raised reaches ms vs n m own given args own_is given_is =
    ap (meta m) (values_before own given ∙ own_is (values given) ∙ ap (with_entries_of reaches (slice_get ms m) vs n) given_is)

-- one place further among the entries, whose variable is reached, or is not
pub place_reached : (reaches : ℕ → ℕ → Bool) (c n : ℕ) (cats : List CatId) (i number : ℕ) (all : List SchemeTree) (w : Values) (d : CatId) → i < length cats
    → reaches c (get_or cats i d).0 ≡ true → number ≡ length cats - 1 - i + n
    → before (all ++ local number ∷ []) (with_entries reaches c (map (λ k. k.0) (drop (i + 1) cats)) n w) ≡ before all (with_entries reaches c (map (λ k. k.0) (drop i cats)) n w)
place_reached reaches c n cats i number all w d lt h e =
    let rest = map (λ (k : CatId). k.0) (drop (i + 1) cats) in
    let count : number ≡ length rest + n = omega (arith, e, lt, length-map (drop (i + 1) cats) (λ (k : CatId). k.0), length-drop (i + 1) cats) in
    before_more all (local number ∷ []) (with_entries reaches c rest n w)
    ∙ ap (λ k. before all (value (local k) (with_entries reaches c rest n w))) count
    ∙ ap (before all) (sym (ap (λ ks. with_entries reaches c (map (λ (k : CatId). k.0) ks) n w) (drop_more cats i d lt) ∙ entry_reached reaches c (get_or cats i d).0 rest n w h))

pub place_passed : (reaches : ℕ → ℕ → Bool) (c n : ℕ) (cats : List CatId) (i : ℕ) (all : List SchemeTree) (w : Values) (d : CatId) → i < length cats
    → reaches c (get_or cats i d).0 ≡ false
    → before all (with_entries reaches c (map (λ k. k.0) (drop (i + 1) cats)) n w) ≡ before all (with_entries reaches c (map (λ k. k.0) (drop i cats)) n w)
place_passed reaches c n cats i all w d lt h =
    ap (before all) (sym (ap (λ ks. with_entries reaches c (map (λ (k : CatId). k.0) ks) n w) (drop_more cats i d lt)
    ∙ entry_passed reaches c (get_or cats i d).0 (map (λ (k : CatId). k.0) (drop (i + 1) cats)) n w h))

-- a mapped list with one element more
pub mapped_more : {A B C : Type 0} (view : A → C) (f : B → C) (xs : List A) (ys : List B) (i : ℕ) (x : A) (y : B) → i < length ys → get_or ys i y ≡ y → view x ≡ f y
    → map view xs ≡ map f (take i ys) → map view (xs ++ x ∷ []) ≡ map f (take (i + 1) ys)
mapped_more view f xs ys i x y lt at e h =
    map-append view xs (x ∷ []) ∙ ap (λ zs. zs ++ view x ∷ []) h ∙ ap (λ z. map f (take i ys) ++ z ∷ []) (e ∙ ap f (sym at))
    ∙ sym (ap (map f) (take_more ys i y lt) ∙ map-append f (take i ys) (get_or ys i y ∷ []))

pub scheme_meta : (m : MetaId) (args : List Scheme) → scheme (Meta m args) ≡ meta m.0 (values (map scheme args))
scheme_meta m args = ap scheme (sym (rolls-Meta m args)) ∙ fold-roll-Scheme SchemeTree (ℕ × SchemeTree) scheme_level part_level (Scheme-F.Meta m args)

pub scheme_local : (i : ℕ) → scheme (Local i) ≡ local i
scheme_local i = ap scheme (sym (rolls-Local i)) ∙ fold-roll-Scheme SchemeTree (ℕ × SchemeTree) scheme_level part_level (Scheme-F.Local i)

-- one entry further
pub entries_further : (reaches : ℕ → ℕ → Bool) (ms : List MetaDecl) (vs : List ℕ) (es : List SEntry) (i : ℕ) (all new : List SEntry) (args : List Scheme) (d : SEntry)
    → i < length es → new ≡ all ++ record { prod = (get_or es i d).prod; args = args } ∷ []
    → map scheme args ≡ map (raised reaches ms vs i) (map scheme (get_or es i d).args)
    → map scheme_entry new ++ raised_entries reaches ms vs (i + 1) (map scheme_entry (drop (i + 1) es))
    ≡ map scheme_entry all ++ raised_entries reaches ms vs i (map scheme_entry (drop i es))
entries_further reaches ms vs es i all new args d lt pushed made =
    let rest = raised_entries reaches ms vs (i + 1) (map scheme_entry (drop (i + 1) es)) in
    let e = get_or es i d in
    ap (λ xs. map scheme_entry xs ++ rest) pushed ∙ ap (λ xs. xs ++ rest) (map-append scheme_entry all (record { prod = e.prod; args = args } ∷ []))
    ∙ append_assoc (map scheme_entry all) (record { prod = e.prod.0; args = map scheme args } ∷ []) rest
    ∙ ap (λ ss. map scheme_entry all ++ record { prod = e.prod.0; args = ss } ∷ rest) made
    ∙ sym (ap (λ xs. map scheme_entry all ++ raised_entries reaches ms vs i (map scheme_entry xs)) (drop_more es i d lt))
