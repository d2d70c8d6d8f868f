-- Worked systems of equations, and how their written runs end. To be held against docs/notation.md, 'Unification' (the table of moves, the written run).
use Rattle.std.specs.Prelude.{ℕ, false, true, Some, None, List, [], ◌∷◌, codes}
use Rattle.binding_terms.specs.Signature.{Signature}
use Rattle.binding_terms.specs.declared.grammar.CatId.{CatId}
use Rattle.binding_terms.specs.declared.grammar.Item.TheVariants.{Word, Slot, Binder}
use Rattle.scheme_terms.specs.SchemeTree.{SchemeTree, meta, known, local, con, no_values, value, no_parts, part}
use Rattle.scheme_terms.specs.Forms.{Names, KnownVariable}
use Rattle.scheme_terms.specs.declared.scheme.MetaDecl.{MetaDecl}
use Rattle.scheme_terms.specs.declared.scheme.Root.TheVariants.{Closed, Whole}
use Rattle.pattern_unify.specs.Equations.{SchemeEquation, AreToUnify}
use Rattle.pattern_unify.specs.State.{start}
use Rattle.pattern_unify.specs.Run.{solved, clashed, Runs, EndsStuck}

abbrev pub category : ℕ → CatId
category n = record { 0 = n }

-- t ::= fn x => t[x] | t t | x; Gamma ::= * | Gamma, x = t
abbrev pub functions : Signature
functions =
    record {
      cats =
          record { name = codes "t"; var = Some (codes "x"); context = false }
          ∷ (record { name = codes "Gamma"; var = None; context = true } ∷ []);
      prods =
          record {
            cat = category 0;
            items = Word (codes "fn") false ∷ (Binder (category 0) ∷ (Word (codes "=>") false ∷ (Slot (category 0) (0 ∷ []) ∷ [])));
          }
          ∷ (record { cat = category 0; items = Slot (category 0) [] ∷ (Slot (category 0) [] ∷ []) }
          ∷ (record { cat = category 1; items = Word (codes "*") false ∷ [] }
          ∷ (record {
            cat = category 1;
            items = Slot (category 1) [] ∷ (Word (codes ",") false ∷ (Binder (category 0) ∷ (Word (codes "=") false ∷ (Slot (category 0) [] ∷ []))));
          }
          ∷ [])));
    }

-- a metavariable with these parameters
abbrev pub name_with : List CatId → MetaDecl
name_with ps = record { name = codes "t"; cat = category 0; params = ps }

abbrev pub one : List CatId
one = category 0 ∷ []

abbrev pub two : List CatId
two = category 0 ∷ one

-- a scope of these names alone
abbrev pub over : List MetaDecl → Names
over metas = record { root = Closed; metas = metas; knowns = [] }

-- fn x => s, where x is the local 0 of s
abbrev pub function : SchemeTree → SchemeTree
function s = con 0 (part 1 s no_parts)

abbrev pub application : SchemeTree → SchemeTree → SchemeTree
application s t = con 1 (part 0 s (part 0 t no_parts))

-- the name with this number, on no argument, on one, and on two
abbrev pub bare : ℕ → SchemeTree
bare m = meta m no_values

abbrev pub on : ℕ → SchemeTree → SchemeTree
on m s = meta m (value s no_values)

abbrev pub on_two : ℕ → SchemeTree → SchemeTree → SchemeTree
on_two m s t = meta m (value s (value t no_values))

-- equations under no local, under one, two and three
abbrev pub under_none : SchemeTree → SchemeTree → SchemeEquation
under_none s t = record { locals = []; left = s; right = t }

abbrev pub under_one : SchemeTree → SchemeTree → SchemeEquation
under_one s t = record { locals = 0 ∷ []; left = s; right = t }

abbrev pub under_two : SchemeTree → SchemeTree → SchemeEquation
under_two s t = record { locals = 0 ∷ (0 ∷ []); left = s; right = t }

abbrev pub under_three : SchemeTree → SchemeTree → SchemeEquation
under_three s t = record { locals = 0 ∷ (0 ∷ (0 ∷ [])); left = s; right = t }

-- the run of the equations ends solved, and the names have become these schemes and numbers over that scope
abbrev pub EndsSolved : Names → List SchemeEquation → (metas : List SchemeTree) → (knowns : List ℕ) → (into : Names) → Type 0
EndsSolved names eqs ss ks into =
    Runs functions (start names eqs) (solved (record { equations = []; so_far = record { metas = ss; knowns = ks; into = into } }))

-- the run of the equations ends with a clash
abbrev pub EndsClashed : Names → List SchemeEquation → Type 0
EndsClashed names eqs = Runs functions (start names eqs) clashed

-- t[x, x'] = t[x', x]: t becomes a new name without parameters
abbrev pub swapped : SchemeEquation
swapped = under_two (on_two 0 (local 1) (local 0)) (on_two 0 (local 0) (local 1))

abbrev pub SwappedIsMet : Type 0
SwappedIsMet = EndsSolved (over (name_with two ∷ [])) (swapped ∷ []) (bare 1 ∷ []) [] (over (name_with two ∷ (name_with [] ∷ [])))

-- t1[x] = t2[x, x']: t2 becomes a new name of its first parameter alone, and t1 is the same
abbrev pub fewer : SchemeEquation
fewer = under_two (on 0 (local 1)) (on_two 1 (local 1) (local 0))

abbrev pub SecondIsPruned : Type 0
SecondIsPruned =
    EndsSolved (over (name_with one ∷ (name_with two ∷ []))) (fewer ∷ []) (on 2 (local 0) ∷ (on 2 (local 1) ∷ [])) []
    (over (name_with one ∷ (name_with two ∷ (name_with one ∷ []))))

-- t1[x, x'] = fn x'' => t2[x'', x]: t1 becomes the function over its parameters x and x'
abbrev pub below_function : SchemeEquation
below_function = under_two (on_two 0 (local 1) (local 0)) (function (on_two 1 (local 0) (local 2)))

abbrev pub FunctionIsBound : Type 0
FunctionIsBound =
    EndsSolved (over (name_with two ∷ (name_with two ∷ []))) (below_function ∷ [])
    (function (on_two 1 (local 0) (local 2)) ∷ (on_two 1 (local 1) (local 0) ∷ [])) [] (over (name_with two ∷ (name_with two ∷ [])))

-- t[x] = x'
abbrev pub escaping : SchemeEquation
escaping = under_two (on 0 (local 1)) (local 0)

abbrev pub EscapingClashes : Type 0
EscapingClashes = EndsClashed (over (name_with one ∷ [])) (escaping ∷ [])

-- t = fn x => t
abbrev pub circular : SchemeEquation
circular = under_none (bare 0) (function (bare 0))

abbrev pub CircularClashes : Type 0
CircularClashes = EndsClashed (over (name_with [] ∷ [])) (circular ∷ [])

-- t1[t2] = fn x => x: no move applies
abbrev pub no_pattern : SchemeEquation
no_pattern = under_none (on 0 (bare 1)) (function (local 0))

abbrev pub NoPatternIsStuck : Type 0
NoPatternIsStuck = EndsStuck functions (over (name_with one ∷ (name_with [] ∷ []))) (no_pattern ∷ []) (no_pattern ∷ [])

-- t1[t2[x]] = x and then t2[x] = x: the second equation is bound first, and that frees the first one
abbrev pub nested : SchemeEquation
nested = under_one (on 0 (on 1 (local 0))) (local 0)

abbrev pub freeing : SchemeEquation
freeing = under_one (on 1 (local 0)) (local 0)

abbrev pub LaterBindingFrees : Type 0
LaterBindingFrees =
    EndsSolved (over (name_with one ∷ (name_with one ∷ []))) (nested ∷ (freeing ∷ [])) (local 0 ∷ (local 0 ∷ [])) []
    (over (name_with one ∷ (name_with one ∷ [])))

-- no equation: the identity
abbrev pub NoneIsIdentity : Type 0
NoneIsIdentity = EndsSolved (over (name_with two ∷ [])) [] (on_two 0 (local 1) (local 0) ∷ []) [] (over (name_with two ∷ []))

-- t1[x, x'] = t2[x', x'']: each lacks a local of the other. The left side goes first, so t2 is pruned to its first parameter, then t1 to its second, and then
-- t1's new name becomes t2's.
abbrev pub crossing : SchemeEquation
crossing = under_three (on_two 0 (local 2) (local 1)) (on_two 1 (local 1) (local 0))

abbrev pub BothArePruned : Type 0
BothArePruned =
    EndsSolved (over (name_with two ∷ (name_with two ∷ []))) (crossing ∷ []) (on 2 (local 0) ∷ (on 2 (local 1) ∷ [])) []
    (over (name_with two ∷ (name_with two ∷ (name_with one ∷ (name_with one ∷ [])))))

-- t1 = t2[x] t3[x]: the first occurrence from the left is pruned first, so t2's new name has the lower number
abbrev pub two_to_prune : SchemeEquation
two_to_prune = under_one (bare 0) (application (on 1 (local 0)) (on 2 (local 0)))

abbrev pub FirstIsPrunedFirst : Type 0
FirstIsPrunedFirst =
    EndsSolved (over (name_with [] ∷ (name_with one ∷ (name_with one ∷ [])))) (two_to_prune ∷ [])
    (application (bare 3) (bare 4) ∷ (bare 3 ∷ (bare 4 ∷ []))) []
    (over (name_with [] ∷ (name_with one ∷ (name_with one ∷ (name_with [] ∷ (name_with [] ∷ []))))))

-- a known variable with the entry x = s
abbrev pub entry_of : (prod : ℕ) → SchemeTree → KnownVariable
entry_of p s = record { name = codes "x"; entry = record { prod = p; args = s ∷ [] } }

-- a scope over Gamma with two names and the two known variables x = s and x' = t
abbrev pub over_two_known : (s t : SchemeTree) → Names
over_two_known s t =
    record { root = Whole (category 1); metas = name_with [] ∷ (name_with [] ∷ []); knowns = entry_of 3 s ∷ (entry_of 3 t ∷ []) }

-- x' = x, where x is known with t1 and x' with t2: the lower number stays, and t1 = t2 is left, so t1 becomes t2, also in the entries
abbrev pub known_pair : SchemeEquation
known_pair = under_none (known 1) (known 0)

abbrev pub KnownAreJoined : Type 0
KnownAreJoined =
    EndsSolved (over_two_known (bare 0) (bare 1)) (known_pair ∷ []) (bare 1 ∷ (bare 1 ∷ [])) (0 ∷ (0 ∷ [])) (over_two_known (bare 1) (bare 1))

-- the scope and the equation are such as are unified
abbrev pub KnownAreToUnify : Type 0
KnownAreToUnify = AreToUnify functions (over_two_known (bare 0) (bare 1)) (known_pair ∷ [])

-- t1[t2] = fn x => x and t3[t2] = fn x => x: both are left
abbrev pub no_pattern_either : SchemeEquation
no_pattern_either = under_none (on 2 (bare 1)) (function (local 0))

abbrev pub BothAreStuck : Type 0
BothAreStuck =
    EndsStuck functions (over (name_with one ∷ (name_with [] ∷ (name_with one ∷ [])))) (no_pattern ∷ (no_pattern_either ∷ [])) (no_pattern ∷ (no_pattern_either ∷ []))

-- t1[x'] = fn x'' => x: x is not the pattern's, and stands below a binder
abbrev pub escaping_below : SchemeEquation
escaping_below = under_two (on 0 (local 0)) (function (local 2))

-- fn x'' => x'' = fn x'' => x: two different locals below a binder
abbrev pub different_below : SchemeEquation
different_below = under_one (function (local 0)) (function (local 1))

abbrev pub ClashBelowBinders : Type 0
ClashBelowBinders = EndsClashed (over (name_with one ∷ [])) (escaping_below ∷ []) × EndsClashed (over []) (different_below ∷ [])
