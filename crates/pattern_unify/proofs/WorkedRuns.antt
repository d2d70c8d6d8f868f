-- The runs of more worked systems: both directions, the order of prunes, a join, two stuck equations, clashes below binders.
use Rattle.std.proofs.Common.{◌≡◌, ◌≢◌, ℕ, ◌<◌, List, [], ◌∷◌, length, inl, inr, refl, ap, sym, arith}
use Rattle.scheme_terms.specs.SchemeTree.{SchemeTree, meta, local, con, Values, no_values, value, Parts, no_parts, part, AreDistinctLocals}
use Rattle.scheme_terms.specs.Forms.{Names}
use Rattle.pattern_unify.specs.Equations.{SchemeEquation}
use Rattle.pattern_unify.specs.State.{State, names_of, start}
use Rattle.pattern_unify.specs.Patterns.{IsRigidInParts, PartsHaveRigidOther}
use Rattle.pattern_unify.specs.Pruning.{HasPrunable, PartsHavePrunable}
use Rattle.pattern_unify.specs.Moves.{Row, delete, decompose, clash, join, meet, prune, bind, Direction, left_first, right_first, Applies, place_in_table}
use Rattle.pattern_unify.specs.Move.{goes_on, has_none, decomposes, clashes, joins, prunes, binds}
use Rattle.pattern_unify.specs.Run.{Turn, is_solved, is_stuck, has_clash, turns}
use Rattle.pattern_unify.specs.Worked.{functions, name_with, one, two, over, application, bare, on, on_two, under_none, under_one, under_two, under_three, no_pattern, no_pattern_either, crossing, two_to_prune, over_two_known, known_pair, escaping_below, different_below, BothArePruned, FirstIsPrunedFirst, KnownAreJoined, KnownAreToUnify, BothAreStuck, ClashBelowBinders}
use Rattle.pattern_unify.proofs.RunFacts.{head_number, kind, other_local, zero_not_one, one_not_zero, delete_turn, stuck_rests}

-- different locals, in the order in which they stand
distinct : {i j : ℕ} → (j ≡ i → ⊥) → AreDistinctLocals (value (local i) (value (local j) no_values))
distinct h = ((other_local h, tt), (tt, tt))

-- before a prune nothing applies to two different names
two_names : (names : Names) (ls : List ℕ) (m n : ℕ) (vs ws : Values) → (m ≡ n → ⊥) → (row : Row) (way : Direction) → place_in_table row < 5
    → Applies names row way (record { locals = ls; left = meta m vs; right = meta n ws }) → ⊥
two_names names ls m n vs ws differ delete left_first less h = differ (ap head_number h)
two_names names ls m n vs ws differ delete right_first less h = differ (sym (ap head_number h))
two_names names ls m n vs ws differ decompose left_first less h = h
two_names names ls m n vs ws differ decompose right_first less h = h
two_names names ls m n vs ws differ clash left_first less (inl h) = h
two_names names ls m n vs ws differ clash left_first less (inr h) = elim h.1 [ inl k ↦ k | inr k ↦ k ]
two_names names ls m n vs ws differ clash right_first less (inl h) = h
two_names names ls m n vs ws differ clash right_first less (inr h) = elim h.1 [ inl k ↦ k | inr k ↦ k ]
two_names names ls m n vs ws differ join left_first less h = h
two_names names ls m n vs ws differ join right_first less h = h
two_names names ls m n vs ws differ meet left_first less h = differ h.0
two_names names ls m n vs ws differ meet right_first less h = differ (sym h.0)
two_names names ls m n vs ws differ prune way less h = absurd (omega (arith, less))
two_names names ls m n vs ws differ bind way less h = absurd (omega (arith, less))

-- nor before a bind, where neither has a local that the other lacks
two_names_bound : (names : Names) (ls : List ℕ) (m n : ℕ) (vs ws : Values) → (m ≡ n → ⊥) → (HasPrunable m vs 0 (meta n ws) → ⊥)
    → (HasPrunable n ws 0 (meta m vs) → ⊥) → (row : Row) (way : Direction) → place_in_table row < 6
    → Applies names row way (record { locals = ls; left = meta m vs; right = meta n ws }) → ⊥
two_names_bound names ls m n vs ws differ first second delete way less h = two_names names ls m n vs ws differ delete way (omega arith) h
two_names_bound names ls m n vs ws differ first second decompose way less h = two_names names ls m n vs ws differ decompose way (omega arith) h
two_names_bound names ls m n vs ws differ first second clash way less h = two_names names ls m n vs ws differ clash way (omega arith) h
two_names_bound names ls m n vs ws differ first second join way less h = two_names names ls m n vs ws differ join way (omega arith) h
two_names_bound names ls m n vs ws differ first second meet way less h = two_names names ls m n vs ws differ meet way (omega arith) h
two_names_bound names ls m n vs ws differ first second prune left_first less h = first h.1
two_names_bound names ls m n vs ws differ first second prune right_first less h = second h.1
two_names_bound names ls m n vs ws differ first second bind way less h = absurd (omega (arith, less))

-- before a prune nothing applies to a name and a production below which it does not stand, and which has no local that it lacks
name_and_production : (names : Names) (ls : List ℕ) (m p : ℕ) (vs : Values) (xs : Parts) → (IsRigidInParts m xs → ⊥) → (PartsHaveRigidOther vs 0 xs → ⊥)
    → (row : Row) (way : Direction) → place_in_table row < 5 → Applies names row way (record { locals = ls; left = meta m vs; right = con p xs }) → ⊥
name_and_production names ls m p vs xs below other delete left_first less h = absurd (omega (arith, ap kind h))
name_and_production names ls m p vs xs below other delete right_first less h = absurd (omega (arith, ap kind h))
name_and_production names ls m p vs xs below other decompose left_first less h = h
name_and_production names ls m p vs xs below other decompose right_first less h = h
name_and_production names ls m p vs xs below other clash left_first less (inl h) = h
name_and_production names ls m p vs xs below other clash left_first less (inr h) = elim h.1 [ inl k ↦ below k | inr k ↦ other k ]
name_and_production names ls m p vs xs below other clash right_first less (inl h) = h
name_and_production names ls m p vs xs below other clash right_first less (inr h) = h
name_and_production names ls m p vs xs below other join left_first less h = h
name_and_production names ls m p vs xs below other join right_first less h = h
name_and_production names ls m p vs xs below other meet left_first less h = h
name_and_production names ls m p vs xs below other meet right_first less h = h
name_and_production names ls m p vs xs below other prune way less h = absurd (omega (arith, less))
name_and_production names ls m p vs xs below other bind way less h = absurd (omega (arith, less))

-- nor before a bind, where no pattern in it has a local that the name lacks
name_and_production_bound : (names : Names) (ls : List ℕ) (m p : ℕ) (vs : Values) (xs : Parts) → (IsRigidInParts m xs → ⊥)
    → (PartsHaveRigidOther vs 0 xs → ⊥) → (PartsHavePrunable m vs 0 xs → ⊥) → (row : Row) (way : Direction) → place_in_table row < 6
    → Applies names row way (record { locals = ls; left = meta m vs; right = con p xs }) → ⊥
name_and_production_bound names ls m p vs xs below other none delete way less h = name_and_production names ls m p vs xs below other delete way (omega arith) h
name_and_production_bound names ls m p vs xs below other none decompose way less h = name_and_production names ls m p vs xs below other decompose way (omega arith) h
name_and_production_bound names ls m p vs xs below other none clash way less h = name_and_production names ls m p vs xs below other clash way (omega arith) h
name_and_production_bound names ls m p vs xs below other none join way less h = name_and_production names ls m p vs xs below other join way (omega arith) h
name_and_production_bound names ls m p vs xs below other none meet way less h = name_and_production names ls m p vs xs below other meet way (omega arith) h
name_and_production_bound names ls m p vs xs below other none prune left_first less h = none h.1
name_and_production_bound names ls m p vs xs below other none prune right_first less h = h
name_and_production_bound names ls m p vs xs below other none bind way less h = absurd (omega (arith, less))

-- t1[x, x'] = t2[x', x'']
abbrev crossing_start : State
crossing_start = start (over (name_with two ∷ (name_with two ∷ []))) (crossing ∷ [])

abbrev second_pruned : State
second_pruned =
    record {
      equations = under_three (on_two 0 (local 2) (local 1)) (on 2 (local 1)) ∷ [];
      so_far = record { metas = on_two 0 (local 1) (local 0) ∷ (on 2 (local 1) ∷ []); knowns = []; into = over (name_with two ∷ (name_with two ∷ (name_with one ∷ []))) };
    }

abbrev both_names : Names
both_names = over (name_with two ∷ (name_with two ∷ (name_with one ∷ (name_with one ∷ []))))

abbrev both_pruned : State
both_pruned =
    record {
      equations = under_three (on 3 (local 1)) (on 2 (local 1)) ∷ [];
      so_far = record { metas = on 3 (local 0) ∷ (on 2 (local 1) ∷ []); knowns = []; into = both_names };
    }

abbrev both_bound : State
both_bound =
    record {
      equations = under_three (on 2 (local 1)) (on 2 (local 1)) ∷ [];
      so_far = record { metas = on 2 (local 0) ∷ (on 2 (local 1) ∷ []); knowns = []; into = both_names };
    }

second_lacks : Applies (names_of crossing_start) prune left_first crossing
second_lacks = (
  distinct (λ h. omega (arith, h)),
  (one_not_zero, distinct zero_not_one, inr (inl (omega arith, λ among. elim among [ inl e ↦ other_local (λ h. omega (arith, h)) e | inr k ↦ elim k [ inl e ↦ other_local one_not_zero e | inr n ↦ n ] ]))),
)

first_turn : Turn functions crossing_start (goes_on second_pruned)
first_turn =
    record {
      before = [];
      e = crossing;
      rest = [];
      row = prune;
      direction = left_first;
      at = refl;
      rests = tt;
      first = record { applies = second_lacks; no_earlier = two_names (names_of crossing_start) crossing.locals 0 1 (value (local 2) (value (local 1) no_values)) (value (local 1) (value (local 0) no_values)) zero_not_one; left = tt };
      moves = prunes 0 1 _ _ (name_with two) refl second_lacks (second_lacks.1, refl, refl) refl refl;
    }

abbrev half_crossing : SchemeEquation
half_crossing = under_three (on_two 0 (local 2) (local 1)) (on 2 (local 1))

first_lacks : Applies (names_of second_pruned) prune right_first half_crossing
first_lacks = (
  (tt, tt),
  (λ h. omega (arith, h), distinct (λ h. omega (arith, h)), inl (omega arith, λ among. elim among [ inl e ↦ other_local (λ h. omega (arith, h)) e | inr n ↦ n ])),
)

second_turn : Turn functions second_pruned (goes_on both_pruned)
second_turn =
    record {
      before = [];
      e = half_crossing;
      rest = [];
      row = prune;
      direction = right_first;
      at = refl;
      rests = tt;
      first =
          record {
            applies = first_lacks;
            no_earlier = two_names (names_of second_pruned) half_crossing.locals 0 2 (value (local 2) (value (local 1) no_values)) (value (local 1) no_values) (λ h. omega (arith, h));
            left = λ h. elim h.1.2 [ inl k ↦ k.1 (inr (inl refl)) | inr n ↦ n ];
          };
      moves = prunes 2 0 _ _ (name_with two) refl first_lacks (first_lacks.1, refl, refl) refl refl;
    }

names_meet : Applies both_names bind left_first (under_three (on 3 (local 1)) (on 2 (local 1)))
names_meet = (
  (tt, tt),
  λ h. elim h [ inl e ↦ absurd (omega (arith, e)) | inr k ↦ elim k [ inl n ↦ n | inr n ↦ n ] ],
  (inr (inl refl), tt),
)

third_turn : Turn functions both_pruned (goes_on both_bound)
third_turn =
    record {
      before = [];
      e = under_three (on 3 (local 1)) (on 2 (local 1));
      rest = [];
      row = bind;
      direction = left_first;
      at = refl;
      rests = tt;
      first =
          record {
            applies = names_meet;
            no_earlier =
                two_names_bound both_names (0 ∷ (0 ∷ (0 ∷ []))) 3 2 (value (local 1) no_values) (value (local 1) no_values) (λ h. omega (arith, h)) (λ h. elim h.2 [ inl k ↦ k.1 (inl refl) | inr n ↦ n ])
                (λ h. elim h.2 [ inl k ↦ k.1 (inl refl) | inr n ↦ n ]);
            left = tt;
          };
      moves = binds 3 _ refl names_meet refl;
    }

pub both_are_pruned : BothArePruned
both_are_pruned =
    turns _ _ _ first_turn
    (turns _ _ _ second_turn (turns _ _ _ third_turn (turns _ _ _ (delete_turn both_bound _ [] refl refl) (is_solved _ refl))))

-- t1 = t2[x] t3[x]
abbrev two_start : State
two_start = start (over (name_with [] ∷ (name_with one ∷ (name_with one ∷ [])))) (two_to_prune ∷ [])

abbrev one_left : SchemeEquation
one_left = under_one (bare 0) (application (bare 3) (on 2 (local 0)))

abbrev one_pruned : State
one_pruned =
    record {
      equations = one_left ∷ [];
      so_far =
          record {
            metas = bare 0 ∷ (bare 3 ∷ (on 2 (local 0) ∷ []));
            knowns = [];
            into = over (name_with [] ∷ (name_with one ∷ (name_with one ∷ (name_with [] ∷ []))));
          };
    }

abbrev five_names : Names
five_names = over (name_with [] ∷ (name_with one ∷ (name_with one ∷ (name_with [] ∷ (name_with [] ∷ [])))))

abbrev none_left : SchemeEquation
none_left = under_one (bare 0) (application (bare 3) (bare 4))

abbrev two_pruned : State
two_pruned =
    record { equations = none_left ∷ []; so_far = record { metas = bare 0 ∷ (bare 3 ∷ (bare 4 ∷ [])); knowns = []; into = five_names } }

abbrev applied_bound : State
applied_bound =
    record {
      equations = under_one (application (bare 3) (bare 4)) (application (bare 3) (bare 4)) ∷ [];
      so_far = record { metas = application (bare 3) (bare 4) ∷ (bare 3 ∷ (bare 4 ∷ [])); knowns = []; into = five_names };
    }

left_lacks : Applies (names_of two_start) prune left_first two_to_prune
left_lacks = (tt, inl (one_not_zero, (tt, tt), inl (omega arith, λ among. among)))

left_turn : Turn functions two_start (goes_on one_pruned)
left_turn =
    record {
      before = [];
      e = two_to_prune;
      rest = [];
      row = prune;
      direction = left_first;
      at = refl;
      rests = tt;
      first =
          record {
            applies = left_lacks;
            no_earlier =
                name_and_production (names_of two_start) (0 ∷ []) 0 1 no_values (part 0 (on 1 (local 0)) (part 0 (on 2 (local 0)) no_parts)) (λ h. elim h [ inl e ↦ omega (arith, e) | inr k ↦ elim k [ inl e ↦ omega (arith, e) | inr n ↦ n ] ])
                (λ h. elim h [ inl n ↦ n | inr k ↦ elim k [ inl n ↦ n | inr n ↦ n ] ]);
            left = tt;
          };
      moves = prunes 0 1 _ _ (name_with one) refl left_lacks (inl ((one_not_zero, (tt, tt), inl (omega arith, λ among. among)), refl, refl)) refl refl;
    }

right_lacks : Applies (names_of one_pruned) prune left_first one_left
right_lacks = (tt, inr (inl (λ h. omega (arith, h), (tt, tt), inl (omega arith, λ among. among))))

right_turn : Turn functions one_pruned (goes_on two_pruned)
right_turn =
    record {
      before = [];
      e = one_left;
      rest = [];
      row = prune;
      direction = left_first;
      at = refl;
      rests = tt;
      first =
          record {
            applies = right_lacks;
            no_earlier =
                name_and_production (names_of one_pruned) (0 ∷ []) 0 1 no_values (part 0 (bare 3) (part 0 (on 2 (local 0)) no_parts)) (λ h. elim h [ inl e ↦ omega (arith, e) | inr k ↦ elim k [ inl e ↦ omega (arith, e) | inr n ↦ n ] ])
                (λ h. elim h [ inl n ↦ n | inr k ↦ elim k [ inl n ↦ n | inr n ↦ n ] ]);
            left = tt;
          };
      moves =
          prunes 0 2 _ _ (name_with one) refl right_lacks
          (inr (λ h. h.2, inl ((λ h. omega (arith, h), (tt, tt), inl (omega arith, λ among. among)), refl, refl))) refl refl;
    }

application_suits : Applies five_names bind left_first none_left
application_suits = (
  tt,
  λ h. elim h [
    | inl k ↦ elim k [ inl e ↦ absurd (omega (arith, e)) | inr n ↦ n ]
    | inr k ↦ elim k [ inl e ↦ elim e [ inl f ↦ absurd (omega (arith, f)) | inr n ↦ n ] | inr n ↦ n ]
  ],
  (tt, (tt, tt)),
)

application_turn : Turn functions two_pruned (goes_on applied_bound)
application_turn =
    record {
      before = [];
      e = none_left;
      rest = [];
      row = bind;
      direction = left_first;
      at = refl;
      rests = tt;
      first =
          record {
            applies = application_suits;
            no_earlier =
                name_and_production_bound five_names (0 ∷ []) 0 1 no_values (part 0 (bare 3) (part 0 (bare 4) no_parts)) (λ h. elim h [ inl e ↦ omega (arith, e) | inr k ↦ elim k [ inl e ↦ omega (arith, e) | inr n ↦ n ] ])
                (λ h. elim h [ inl n ↦ n | inr k ↦ elim k [ inl n ↦ n | inr n ↦ n ] ])
                (λ h. elim h [ inl k ↦ k.2 | inr k ↦ elim k [ inl l ↦ l.2 | inr n ↦ n ] ]);
            left = tt;
          };
      moves = binds 0 _ refl application_suits refl;
    }

pub first_is_pruned_first : FirstIsPrunedFirst
first_is_pruned_first =
    turns _ _ _ left_turn
    (turns _ _ _ right_turn (turns _ _ _ application_turn (turns _ _ _ (delete_turn applied_bound _ [] refl refl) (is_solved _ refl))))

-- x' = x, two known variables
abbrev pair_names : Names
pair_names = over_two_known (bare 0) (bare 1)

abbrev entries_left : SchemeEquation
entries_left = under_none (bare 0) (bare 1)

abbrev joined : State
joined =
    record { equations = entries_left ∷ []; so_far = record { metas = bare 0 ∷ (bare 1 ∷ []); knowns = 0 ∷ (0 ∷ []); into = pair_names } }

abbrev entries_bound : State
entries_bound =
    record {
      equations = under_none (bare 1) (bare 1) ∷ [];
      so_far = record { metas = bare 1 ∷ (bare 1 ∷ []); knowns = 0 ∷ (0 ∷ []); into = over_two_known (bare 1) (bare 1) };
    }

can_join : Applies pair_names join left_first known_pair
can_join = (one_not_zero, refl)

join_turn : Turn functions (start pair_names (known_pair ∷ [])) (goes_on joined)
join_turn =
    record {
      before = [];
      e = known_pair;
      rest = [];
      row = join;
      direction = left_first;
      at = refl;
      rests = tt;
      first = record { applies = can_join; no_earlier = earlier; left = tt };
      moves = joins 0 1 (omega arith) (inr (refl, refl)) can_join refl;
    }
  where
    earlier : (row : Row) (way : Direction) → place_in_table row < 3 → Applies pair_names row way known_pair → ⊥
    earlier delete left_first less h = absurd (omega (arith, ap head_number h))
    earlier delete right_first less h = absurd (omega (arith, ap head_number h))
    earlier decompose left_first less h = h
    earlier decompose right_first less h = h
    earlier clash left_first less (inl h) = h.1 refl
    earlier clash left_first less (inr h) = h
    earlier clash right_first less (inl h) = h.1 refl
    earlier clash right_first less (inr h) = h
    earlier join way less h = absurd (omega (arith, less))
    earlier meet way less h = absurd (omega (arith, less))
    earlier prune way less h = absurd (omega (arith, less))
    earlier bind way less h = absurd (omega (arith, less))

entries_suit : Applies pair_names bind left_first entries_left
entries_suit = (tt, λ h. elim h [ inl e ↦ absurd (omega (arith, e)) | inr n ↦ n ], tt)

entries_turn : Turn functions joined (goes_on entries_bound)
entries_turn =
    record {
      before = [];
      e = entries_left;
      rest = [];
      row = bind;
      direction = left_first;
      at = refl;
      rests = tt;
      first = record { applies = entries_suit; no_earlier = two_names_bound pair_names [] 0 1 no_values no_values zero_not_one (λ h. h.2) (λ h. h.2); left = tt };
      moves = binds 0 _ refl entries_suit refl;
    }

pub known_are_joined : KnownAreJoined
known_are_joined =
    turns _ _ _ join_turn (turns _ _ _ entries_turn (turns _ _ _ (delete_turn entries_bound _ [] refl refl) (is_solved _ refl)))

-- t1[t2] = fn x => x and t3[t2] = fn x => x
abbrev three_names : Names
three_names = over (name_with one ∷ (name_with [] ∷ (name_with one ∷ [])))

pub both_are_stuck : BothAreStuck
both_are_stuck =
    record {
      st = start three_names (no_pattern ∷ (no_pattern_either ∷ []));
      runs = is_stuck _ (λ h. absurd (omega (arith, ap length h)), (stuck_rests three_names 0, (stuck_rests three_names 2, tt)));
      same = refl;
    }

-- t1[x'] = fn x'' => x
escapes_below : Applies (over (name_with one ∷ [])) clash left_first escaping_below
escapes_below = inr ((tt, tt), inr (inl (omega arith, λ among. elim among [ inl e ↦ other_local zero_not_one e | inr n ↦ n ])))

escape_turn : Turn functions (start (over (name_with one ∷ [])) (escaping_below ∷ [])) has_none
escape_turn =
    record {
      before = [];
      e = escaping_below;
      rest = [];
      row = clash;
      direction = left_first;
      at = refl;
      rests = tt;
      first = record { applies = escapes_below; no_earlier = earlier; left = tt };
      moves = clashes escapes_below refl;
    }
  where
    earlier : (row : Row) (way : Direction) → place_in_table row < 2 → Applies (over (name_with one ∷ [])) row way escaping_below → ⊥
    earlier delete left_first less h = absurd (omega (arith, ap kind h))
    earlier delete right_first less h = absurd (omega (arith, ap kind h))
    earlier decompose left_first less h = h
    earlier decompose right_first less h = h
    earlier clash way less h = absurd (omega (arith, less))
    earlier join way less h = absurd (omega (arith, less))
    earlier meet way less h = absurd (omega (arith, less))
    earlier prune way less h = absurd (omega (arith, less))
    earlier bind way less h = absurd (omega (arith, less))

-- fn x'' => x'' = fn x'' => x
abbrev body_number : SchemeTree → ℕ
body_number (con p (part n s xs)) = head_number s
body_number _ = 0

abbrev bodies : State
bodies = record { equations = under_two (local 0) (local 1) ∷ []; so_far = record { metas = []; knowns = []; into = over [] } }

bodies_turn : Turn functions (start (over []) (different_below ∷ [])) (goes_on bodies)
bodies_turn =
    record {
      before = [];
      e = different_below;
      rest = [];
      row = decompose;
      direction = left_first;
      at = refl;
      rests = tt;
      first = record { applies = refl; no_earlier = earlier; left = tt };
      moves = decomposes 0 _ _ refl refl refl;
    }
  where
    earlier : (row : Row) (way : Direction) → place_in_table row < 1 → Applies (over []) row way different_below → ⊥
    earlier delete left_first less h = absurd (omega (arith, ap body_number h))
    earlier delete right_first less h = absurd (omega (arith, ap body_number h))
    earlier decompose way less h = absurd (omega (arith, less))
    earlier clash way less h = absurd (omega (arith, less))
    earlier join way less h = absurd (omega (arith, less))
    earlier meet way less h = absurd (omega (arith, less))
    earlier prune way less h = absurd (omega (arith, less))
    earlier bind way less h = absurd (omega (arith, less))

locals_differ : Applies (over []) clash left_first (under_two (local 0) (local 1))
locals_differ = inl zero_not_one

locals_turn : Turn functions bodies has_none
locals_turn =
    record {
      before = [];
      e = under_two (local 0) (local 1);
      rest = [];
      row = clash;
      direction = left_first;
      at = refl;
      rests = tt;
      first = record { applies = locals_differ; no_earlier = earlier; left = tt };
      moves = clashes locals_differ refl;
    }
  where
    earlier : (row : Row) (way : Direction) → place_in_table row < 2 → Applies (over []) row way (under_two (local 0) (local 1)) → ⊥
    earlier delete left_first less h = absurd (omega (arith, ap head_number h))
    earlier delete right_first less h = absurd (omega (arith, ap head_number h))
    earlier decompose left_first less h = h
    earlier decompose right_first less h = h
    earlier clash way less h = absurd (omega (arith, less))
    earlier join way less h = absurd (omega (arith, less))
    earlier meet way less h = absurd (omega (arith, less))
    earlier prune way less h = absurd (omega (arith, less))
    earlier bind way less h = absurd (omega (arith, less))

pub clash_below_binders : ClashBelowBinders
clash_below_binders = (has_clash _ escape_turn, turns _ _ _ bodies_turn (has_clash _ locals_turn))

-- the two known variables are of the context, and their equation is between terms
pub known_are_to_unify : KnownAreToUnify
known_are_to_unify = record { knowns = ((refl, some, ((refl, tt), tt)), ((refl, some, ((refl, tt), tt)), tt)); sides = ((0, refl, refl), tt) }
  where
    some : ◌≢◌ {A = List ℕ} (0 ∷ []) []
    some h = omega (arith, ap length h)
