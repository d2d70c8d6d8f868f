-- The equations that stand in the place of another have the same solutions as it.
use Rattle.std.proofs.Common.{◌≡◌, ℕ, ◌+◌, List, [], ◌∷◌, ◌++◌, length, refl, ap, sym, ◌∙◌, length-append, arith}
use Rattle.std.specs.List.{AllByRecursion}
use Rattle.binding_terms.specs.Signature.{Signature, Place}
use Rattle.binding_terms.specs.Scope.{bound}
use Rattle.scheme_terms.specs.SchemeTree.{SchemeTree, con, Parts, no_parts, part}
use Rattle.scheme_terms.specs.Forms.{Names}
use Rattle.scheme_terms.specs.SchemeScope.{AreSchemeParts}
use Rattle.scheme_terms.proofs.Makings.{Making}
use Rattle.scheme_terms.proofs.SchemeFacts.{length_bound}
use Rattle.pattern_unify.specs.Equations.{SchemeEquation}
use Rattle.pattern_unify.specs.Move.{part_equations}

-- the sides of the equation become the same
abbrev pub IsSolvedBy : Making → SchemeEquation → Type 0
IsSolvedBy made e = made.make (length e.locals) e.left ≡ made.make (length e.locals) e.right

-- other equations in the place of one
pub replaced_all : (P : SchemeEquation → Type 0) (before : List SchemeEquation) (e : SchemeEquation) (rest new : List SchemeEquation) →
    AllByRecursion P (before ++ e ∷ rest) → (P e → AllByRecursion P new) → AllByRecursion P (before ++ (new ++ rest))
replaced_all P [] e rest new h to = onto new (to h.0)
  where
    onto : (new : List SchemeEquation) → AllByRecursion P new → AllByRecursion P (new ++ rest)
    onto [] g = h.1
    onto (x ∷ xs) g = (g.0, onto xs g.1)
replaced_all P (b ∷ before) e rest new h to = (h.0, replaced_all P before e rest new h.1 to)

front_part : (P : SchemeEquation → Type 0) (new rest : List SchemeEquation) → AllByRecursion P (new ++ rest) → AllByRecursion P new × AllByRecursion P rest
front_part P [] rest h = (tt, h)
front_part P (x ∷ new) rest h = let both = front_part P new rest h.1 in ((h.0, both.0), both.1)

pub restored_all : (P : SchemeEquation → Type 0) (before : List SchemeEquation) (e : SchemeEquation) (rest new : List SchemeEquation) →
    AllByRecursion P (before ++ (new ++ rest)) → (AllByRecursion P new → P e) → AllByRecursion P (before ++ e ∷ rest)
restored_all P [] e rest new h from = let both = front_part P new rest h in (from both.0, both.1)
restored_all P (b ∷ before) e rest new h from = (h.0, restored_all P before e rest new h.1 from)

-- the new ones among all
pub new_ones : (P : SchemeEquation → Type 0) (before new rest : List SchemeEquation) → AllByRecursion P (before ++ (new ++ rest)) → AllByRecursion P new
new_ones P [] new rest h = (front_part P new rest h).0
new_ones P (b ∷ before) new rest h = new_ones P before new rest h.1

con_same : (p q : ℕ) (xs ys : Parts) → con p xs ≡ con q ys → xs ≡ ys
con_same p q xs ys e = cc

part_same : (m n : ℕ) (s t : SchemeTree) (xs ys : Parts) → part m s xs ≡ part n t ys → (s ≡ t) × (xs ≡ ys)
part_same m n s t xs ys e = (cc, cc)

-- the arguments of a production
module _ (made : Making) (sig : Signature) (names : Names) (ls bs : List ℕ) where
  depth : (at : Place) (n : ℕ) → n ≡ length at.binds → length ls + n ≡ length (bound bs at.binds ++ ls)
  depth at n e = omega (arith, e, length-append (bound bs at.binds) ls, length_bound bs at.binds)

  parts_solved : (ss : List Place) (xs ys : Parts) → AreSchemeParts sig names ls bs ss xs → AreSchemeParts sig names ls bs ss ys →
      made.make_parts (length ls) xs ≡ made.make_parts (length ls) ys → AllByRecursion (IsSolvedBy made) (part_equations ls bs ss xs ys)
  parts_solved [] xs ys h g e = tt
  parts_solved (at ∷ ss) no_parts ys h g e = tt
  parts_solved (at ∷ ss) (part m x xs) no_parts h g e = tt
  parts_solved (at ∷ ss) (part m x xs) (part n y ys) h g e =
      let same = part_same m n (made.make (length ls + m) x) (made.make (length ls + n) y) (made.make_parts (length ls) xs) (made.make_parts (length ls) ys)
      (sym (made.of_part (length ls) m x xs) ∙ e ∙ made.of_part (length ls) n y ys) in (
        ap (λ d. made.make d x) (sym (depth at m h.0)) ∙ same.0 ∙ ap (λ d. made.make d y) (depth at n g.0),
        parts_solved ss xs ys h.2 g.2 same.1,
      )

  parts_same : (ss : List Place) (xs ys : Parts) → AreSchemeParts sig names ls bs ss xs → AreSchemeParts sig names ls bs ss ys →
      AllByRecursion (IsSolvedBy made) (part_equations ls bs ss xs ys) → made.make_parts (length ls) xs ≡ made.make_parts (length ls) ys
  parts_same [] no_parts no_parts h g e = refl
  parts_same [] no_parts (part n y ys) h g e = absurd g
  parts_same [] (part m x xs) ys h g e = absurd h
  parts_same (at ∷ ss) no_parts ys h g e = absurd h
  parts_same (at ∷ ss) (part m x xs) no_parts h g e = absurd g
  parts_same (at ∷ ss) (part m x xs) (part n y ys) h g e =
      let first : made.make (length ls + m) x ≡ made.make (length ls + n) y =
      ap (λ d. made.make d x) (depth at m h.0) ∙ e.0 ∙ ap (λ d. made.make d y) (sym (depth at n g.0)) in
      made.of_part (length ls) m x xs
      ∙ ap (λ k. part k (made.make (length ls + m) x) (made.make_parts (length ls) xs)) (h.0 ∙ sym g.0)
      ∙ ap (λ t. part n t (made.make_parts (length ls) xs)) first
      ∙ ap (part n (made.make (length ls + n) y)) (parts_same ss xs ys h.2 g.2 e.1)
      ∙ sym (made.of_part (length ls) n y ys)

  pub decomposed : (p : ℕ) (ss : List Place) (xs ys : Parts) → AreSchemeParts sig names ls bs ss xs → AreSchemeParts sig names ls bs ss ys →
      made.make (length ls) (con p xs) ≡ made.make (length ls) (con p ys) → AllByRecursion (IsSolvedBy made) (part_equations ls bs ss xs ys)
  decomposed p ss xs ys h g e =
      parts_solved ss xs ys h g
      (con_same p p (made.make_parts (length ls) xs) (made.make_parts (length ls) ys) (sym (made.of_con (length ls) p xs) ∙ e ∙ made.of_con (length ls) p ys))

  pub composed_again : (p : ℕ) (ss : List Place) (xs ys : Parts) → AreSchemeParts sig names ls bs ss xs → AreSchemeParts sig names ls bs ss ys →
      AllByRecursion (IsSolvedBy made) (part_equations ls bs ss xs ys) → made.make (length ls) (con p xs) ≡ made.make (length ls) (con p ys)
  composed_again p ss xs ys h g e =
      made.of_con (length ls) p xs ∙ ap (con p) (parts_same ss xs ys h g e) ∙ sym (made.of_con (length ls) p ys)
