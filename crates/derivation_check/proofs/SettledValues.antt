-- An instance restricted to what inputs settle, and what pieces it matches.
use Rattle.std.proofs.Common.{◌≡◌, ◌<◌, ℕ, zero, suc, ◌+◌, List, [], ◌∷◌, ◌++◌, length, Some, None, slice_get, inl, inr, refl, ap, ◌∙◌, sym, subst, arith}
use Rattle.std.specs.Prelude.{Option, MatchOption, unwrap_or}
use Rattle.std.specs.List.{AllByRecursion}
use Rattle.std.proofs.lemmas.Option.{slice_get_within, same_Some}
use Rattle.binding_terms.specs.Tree as terms
use Rattle.binding_terms.specs.Tree.{Tree, var, Args, no_args, arg}
use Rattle.binding_terms.specs.Substitution as fillings
use Rattle.binding_terms.specs.Signature.{Signature, Place, slots, binders}
use Rattle.binding_terms.specs.Scope.{bound}
use Rattle.binding_terms.proofs.Lists.{match_some}
use Rattle.scheme_terms.specs.SchemeTree.{SchemeTree, meta, known, local, con, Values, no_values, value, Parts, no_parts, part, OccursIn, OccursInValues, OccursInParts}
use Rattle.scheme_terms.specs.Forms.{Names, Instance, KnownVariable}
use Rattle.scheme_terms.specs.Instance.{instance_of, instances_of, parts_instance, argument_or_root, value_of}
use Rattle.scheme_terms.specs.SchemeScope.{IsScheme, AreValues, AreSchemeParts}
use Rattle.scheme_terms.specs.declared.scheme.MetaDecl.{MetaDecl}
use Rattle.rule_schemes.specs.Statement.{StatementInput, given_value}
use Rattle.derivation_check.specs.Fitting.{Piece, Matches, PartsMatch, AreSettled, ValuesSettled, PartsSettled, IsSettled, PieceMatches}
use Rattle.derivation_check.proofs.Deciding.{Decided, settled_decided}
use Rattle.derivation_check.proofs.PieceFacts.{IsTyped}

-- the instance of the piece's scheme is its term
abbrev pub PieceMakes : Instance → Piece → Type 0
PieceMakes inst p = instance_of inst p.locals p.pattern ≡ p.target

no_known : (names : Names) → names.knowns ≡ [] → (k : ℕ) (P : KnownVariable → Type 0) → MatchOption (slice_get names.knowns k) ⊥ P → ⊥
no_known names none k P h = subst (λ (ks : List KnownVariable). MatchOption (slice_get ks k) ⊥ P) none h

-- a scheme over names that are settled
module _ (sig : Signature) (names : Names) (inputs : List StatementInput) where
  mutual
    scheme_settled : (ls : List ℕ) (c : ℕ) (s : SchemeTree) → IsScheme sig names ls c s → ((m : ℕ) → m < length names.metas → OccursIn m s → IsSettled inputs m) → AreSettled inputs s
    scheme_settled ls c (meta m vs) is settled =
        let found = match_some (slice_get names.metas m) _ is in (
          settled m (slice_get_within names.metas m found.0 found.1) (inl refl),
          values_settled ls _ vs found.2.1 (λ k less here. settled k less (inr here)),
        )
    scheme_settled ls c (known k) is settled = tt
    scheme_settled ls c (local i) is settled = tt
    scheme_settled ls c (con p xs) is settled =
        let found = match_some (slice_get sig.prods p) _ is in
        parts_settled ls (binders found.0.items) (slots found.0.items) xs found.2.1 settled

    values_settled : (ls cs : List ℕ) (vs : Values) → AreValues sig names ls cs vs → ((m : ℕ) → m < length names.metas → OccursInValues m vs → IsSettled inputs m) → ValuesSettled inputs vs
    values_settled ls cs no_values are settled = tt
    values_settled ls [] (value s vs) are settled = absurd are
    values_settled ls (c ∷ cs) (value s vs) are settled =
        (scheme_settled ls c s are.0 (λ k less here. settled k less (inl here)), values_settled ls cs vs are.1 (λ k less here. settled k less (inr here)))

    parts_settled : (ls bs : List ℕ) (ss : List Place) (xs : Parts) → AreSchemeParts sig names ls bs ss xs → ((m : ℕ) → m < length names.metas → OccursInParts m xs → IsSettled inputs m) → PartsSettled inputs xs
    parts_settled ls bs ss no_parts are settled = tt
    parts_settled ls bs [] (part n s xs) are settled = absurd are
    parts_settled ls bs (at ∷ ss) (part n s xs) are settled = (
      scheme_settled (bound bs at.binds ++ ls) at.cat s are.1 (λ k less here. settled k less (inl here)),
      parts_settled ls bs ss xs are.2 (λ k less here. settled k less (inr here)),
    )

-- a settled scheme that matches becomes the term
module _ (inputs : List StatementInput) (inst : Instance) where
  mutual
    pub made : (n : ℕ) (s : SchemeTree) (t : Tree) → AreSettled inputs s → Matches inputs inst n s t → instance_of inst n s ≡ t
    made n (meta m vs) t settled match = match settled
    made n (known k) t settled match = match
    made n (local i) t settled match = match
    made n (con p xs) (var i) settled match = absurd match
    made n (con p xs) (terms.con q ys) settled match =
        let prod = match.0 in
        let parts = parts_made n xs ys settled match.1 in λ i. terms.con (prod i) (parts i)

    parts_made : (n : ℕ) (xs : Parts) (ys : Args) → PartsSettled inputs xs → PartsMatch inputs inst n xs ys → parts_instance inst n xs ≡ ys
    parts_made n no_parts no_args settled match = refl
    parts_made n no_parts (arg b t ys) settled match = absurd match
    parts_made n (part a s xs) no_args settled match = absurd match
    parts_made n (part a s xs) (arg b t ys) settled match =
        let binds = match.0.0 in
        let first = made (n + a) s t settled.0 match.0.1 in
        let rest = parts_made n xs ys settled.1 match.1 in λ i. arg (binds i) (first i) (rest i)

-- the values of what is settled, and no other
abbrev pub value_where : {A : Type 0} → Decided A → Option Tree → Option Tree
value_where (inl settled) o = o
value_where (inr none) o = None

abbrev pub values_from : List StatementInput → Instance → (first : ℕ) → List MetaDecl → List (Option Tree)
values_from inputs inst n [] = []
values_from inputs inst n (decl ∷ decls) = value_where (settled_decided inputs n) (given_value inst n) ∷ values_from inputs inst (suc n) decls

abbrev pub restricted : List StatementInput → Instance → List MetaDecl → Instance
restricted inputs inst metas = record { metas = values_from inputs inst 0 metas; knowns = []; root = inst.root }

module _ (inputs : List StatementInput) (inst : Instance) where
  pub values_long : (n : ℕ) (decls : List MetaDecl) → length (values_from inputs inst n decls) ≡ length decls
  values_long n [] = refl
  values_long n (decl ∷ decls) = ap suc (values_long (suc n) decls)

  value_at : (n : ℕ) (decls : List MetaDecl) (k : ℕ) → k < length decls →
      slice_get (values_from inputs inst n decls) k ≡ Some (value_where (settled_decided inputs (n + k)) (given_value inst (n + k)))
  value_at n [] k h = absurd (let no : ⊥ = omega (arith, h) in no)
  value_at n (decl ∷ decls) zero h = ap (λ m. Some (value_where (settled_decided inputs m) (given_value inst m))) (let e : n ≡ n + 0 = omega arith in e)
  value_at n (decl ∷ decls) (suc k) h =
      value_at (suc n) decls k (omega (arith, h)) ∙ ap (λ m. Some (value_where (settled_decided inputs m) (given_value inst m))) (let e : suc n + k ≡ n + suc k = omega arith in e)

  where_settled : {A : Type 0} (d : Decided A) (o : Option Tree) → A → value_where d o ≡ o
  where_settled (inl settled) o h = refl
  where_settled (inr none) o h = absurd (none h)

  where_other : {A : Type 0} (d : Decided A) (o : Option Tree) → (A → ⊥) → value_where d o ≡ None
  where_other (inl settled) o h = absurd (h settled)
  where_other (inr none) o h = refl

  module _ (metas : List MetaDecl) where
    here : (m : ℕ) (o : Option Tree) → slice_get (values_from inputs inst 0 metas) m ≡ Some o → o ≡ value_where (settled_decided inputs m) (given_value inst m)
    here m o e =
        let less : m < length metas = omega (arith, slice_get_within (values_from inputs inst 0 metas) m o e, values_long 0 metas) in
        same_Some o (value_where (settled_decided inputs m) (given_value inst m))
        (sym e ∙ value_at 0 metas m less ∙ ap (λ k. Some (value_where (settled_decided inputs k) (given_value inst k))) (let z : 0 + m ≡ m = omega arith in z))

    pub settled_value : (m : ℕ) (o : Option Tree) → slice_get (values_from inputs inst 0 metas) m ≡ Some o → IsSettled inputs m → o ≡ given_value inst m
    settled_value m o e settled = here m o e ∙ where_settled (settled_decided inputs m) (given_value inst m) settled

    pub other_value : (m : ℕ) (o : Option Tree) → slice_get (values_from inputs inst 0 metas) m ≡ Some o → (IsSettled inputs m → ⊥) → o ≡ None
    other_value m o e none = here m o e ∙ where_other (settled_decided inputs m) (given_value inst m) none

    agrees : (m : ℕ) → m < length metas → IsSettled inputs m → value_of (restricted inputs inst metas) m ≡ value_of inst m
    agrees m less settled =
        ap (λ x. unwrap_or (unwrap_or x None) (var 0))
        (value_at 0 metas m less ∙ ap (λ k. Some (value_where (settled_decided inputs k) (given_value inst k))) (let z : 0 + m ≡ m = omega arith in z))
        ∙ ap (λ o. unwrap_or o (var 0)) (where_settled (settled_decided inputs m) (given_value inst m) settled)

-- the restricted instance matches what the instance makes
module _ (sig : Signature) (names : Names) (none : names.knowns ≡ []) (inputs : List StatementInput) (inst : Instance) where
  abbrev r : Instance
  r = restricted inputs inst names.metas

  mutual
    same_instance : (ls : List ℕ) (c n : ℕ) (s : SchemeTree) → IsScheme sig names ls c s → AreSettled inputs s → instance_of r n s ≡ instance_of inst n s
    same_instance ls c n (meta m vs) is settled =
        let found = match_some (slice_get names.metas m) _ is in
        ap (λ ts. fillings.filled (argument_or_root n ts) (value_of r m)) (same_instances ls _ n vs found.2.1 settled.1)
        ∙ ap (fillings.filled (argument_or_root n (instances_of inst n vs))) (agrees inputs inst names.metas m (slice_get_within names.metas m found.0 found.1) settled.0)
    same_instance ls c n (known k) is settled = absurd (no_known names none k _ is)
    same_instance ls c n (local i) is settled = refl
    same_instance ls c n (con p xs) is settled =
        let found = match_some (slice_get sig.prods p) _ is in
        ap (terms.con p) (same_parts ls (binders found.0.items) (slots found.0.items) n xs found.2.1 settled)

    same_instances : (ls cs : List ℕ) (n : ℕ) (vs : Values) → AreValues sig names ls cs vs → ValuesSettled inputs vs → instances_of r n vs ≡ instances_of inst n vs
    same_instances ls cs n no_values are settled = refl
    same_instances ls [] n (value s vs) are settled = absurd are
    same_instances ls (c ∷ cs) n (value s vs) are settled =
        let first = same_instance ls c n s are.0 settled.0 in
        let rest = same_instances ls cs n vs are.1 settled.1 in λ i. first i ∷ rest i

    same_parts : (ls bs : List ℕ) (ss : List Place) (n : ℕ) (xs : Parts) → AreSchemeParts sig names ls bs ss xs → PartsSettled inputs xs → parts_instance r n xs ≡ parts_instance inst n xs
    same_parts ls bs ss n no_parts are settled = refl
    same_parts ls bs [] n (part a s xs) are settled = absurd are
    same_parts ls bs (at ∷ ss) n (part a s xs) are settled =
        let first = same_instance (bound bs at.binds ++ ls) at.cat (n + a) s are.1 settled.0 in
        let rest = same_parts ls bs ss n xs are.2 settled.1 in λ i. arg a (first i) (rest i)

  mutual
    matches : (ls : List ℕ) (c n : ℕ) (s : SchemeTree) (t : Tree) → IsScheme sig names ls c s → instance_of inst n s ≡ t → Matches inputs r n s t
    matches ls c n (meta m vs) t is e = λ settled. same_instance ls c n (meta m vs) is settled ∙ e
    matches ls c n (known k) t is e = absurd (no_known names none k _ is)
    matches ls c n (local i) t is e = e
    matches ls c n (con p xs) (var i) is e = let no : ⊥ = cc in no
    matches ls c n (con p xs) (terms.con q ys) is e =
        let found = match_some (slice_get sig.prods p) _ is in
        (cc, parts_match ls (binders found.0.items) (slots found.0.items) n xs ys found.2.1 cc)

    parts_match : (ls bs : List ℕ) (ss : List Place) (n : ℕ) (xs : Parts) (ys : Args) → AreSchemeParts sig names ls bs ss xs → parts_instance inst n xs ≡ ys → PartsMatch inputs r n xs ys
    parts_match ls bs ss n no_parts no_args are e = tt
    parts_match ls bs ss n no_parts (arg b t ys) are e = let no : ⊥ = cc in no
    parts_match ls bs ss n (part a s xs) no_args are e = let no : ⊥ = cc in no
    parts_match ls bs [] n (part a s xs) (arg b t ys) are e = absurd are
    parts_match ls bs (at ∷ ss) n (part a s xs) (arg b t ys) are e =
        ((cc, matches (bound bs at.binds ++ ls) at.cat (n + a) s t are.1 cc), parts_match ls bs ss n xs ys are.2 cc)

  pub pieces_match : (beyond : List ℕ) (ps : List Piece) → AllByRecursion (IsTyped sig names beyond) ps → AllByRecursion (PieceMakes inst) ps → AllByRecursion (PieceMatches inputs r) ps
  pieces_match beyond [] typed makes = tt
  pieces_match beyond (p ∷ ps) typed makes = (matches typed.0.ls typed.0.cat p.locals p.pattern p.target typed.0.pattern makes.0, pieces_match beyond ps typed.1 makes.1)

-- pieces whose names are settled become their terms where they match
pub pieces_make : (sig : Signature) (names : Names) (beyond : List ℕ) (inputs : List StatementInput) (inst : Instance) (ps : List Piece) →
    AllByRecursion (IsTyped sig names beyond) ps → AllByRecursion (λ p. (m : ℕ) → OccursIn m p.pattern → m < length names.metas → IsSettled inputs m) ps →
    AllByRecursion (PieceMatches inputs inst) ps → AllByRecursion (PieceMakes inst) ps
pieces_make sig names beyond inputs inst [] typed settled match = tt
pieces_make sig names beyond inputs inst (p ∷ ps) typed settled match = (
  made inputs inst p.locals p.pattern p.target (scheme_settled sig names inputs typed.0.ls typed.0.cat p.pattern typed.0.pattern (λ m less there. settled.0 m there less)) match.0,
  pieces_make sig names beyond inputs inst ps typed.1 settled.1 match.1,
)
