-- Longest runs: where they stop, and that a text has one at its front.
use Rattle.std.proofs.Common.{◌≡◌, ℕ, Bool, false, List, [], ◌∷◌, ◌++◌, refl, sym, ◌∙◌, subst, append-nil}
use Rattle.std.proofs.lemmas.Bool.{both_ways}
use Rattle.sy_base.specs.Tokens.{IsLongestRun}

module _ (goes : ℕ → List ℕ → Bool) where
  -- a run stops before a character with which it does not go on
  pub run_stops : (run rest : List ℕ) (c : ℕ) → IsLongestRun goes run (c ∷ rest) → goes c rest ≡ false
  run_stops [] rest c longest = longest
  run_stops (d ∷ run) rest c longest = run_stops run rest c longest.1

  pub run_same : (run rest other other_rest : List ℕ) → IsLongestRun goes run rest → IsLongestRun goes other other_rest
      → run ++ rest ≡ other ++ other_rest → (run ≡ other) × (rest ≡ other_rest)
  run_same [] rest [] other_rest longest other_longest same = (refl, same)
  run_same [] [] (d ∷ other) other_rest longest other_longest same = absurd (cc)
  run_same [] (c ∷ rest) (d ∷ other) other_rest longest other_longest same =
      let first : c ≡ d = cc in
      let after : rest ≡ other ++ other_rest = cc in
      absurd (both_ways (goes d (other ++ other_rest)) ((λ i. goes (sym first i) (sym after i)) ∙ longest) other_longest.0)
  run_same (c ∷ run) rest [] [] longest other_longest same = absurd (cc)
  run_same (c ∷ run) rest [] (d ∷ other_rest) longest other_longest same =
      let first : d ≡ c = cc in
      let after : other_rest ≡ run ++ rest = cc in
      absurd (both_ways (goes c (run ++ rest)) ((λ i. goes (sym first i) (sym after i)) ∙ other_longest) longest.0)
  run_same (c ∷ run) rest (d ∷ other) other_rest longest other_longest same =
      let first : c ≡ d = cc in
      let after : run ++ rest ≡ other ++ other_rest = cc in
      let more = run_same run rest other other_rest longest.1 other_longest.1 after in
      ((λ i. first i ∷ more.0 i), more.1)

  -- a run that reaches the end is all that there is
  pub run_whole : (run : List ℕ) → IsLongestRun goes run [] → IsLongestRun goes (run ++ []) []
  run_whole run longest = subst (λ whole. IsLongestRun goes whole []) (sym (append-nil run)) longest
