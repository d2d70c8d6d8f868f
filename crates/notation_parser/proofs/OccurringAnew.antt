-- Where metavariables stand after they are numbered anew.
use Rattle.std.proofs.Common.{◌≡◌, ℕ, List, [], ◌∷◌, map, inl, inr, refl, ap, ◌∙◌}
use Rattle.binding_terms.specs.Numbered.{AnyByRecursion}
use Rattle.scheme_terms.specs.SchemeTree.{SchemeTree, meta, known, local, con, Values, no_values, value, Parts, no_parts, part, OccursIn, OccursInValues, OccursInParts}
use Rattle.scheme_terms.specs.Forms.{SchemeEntry, KnownVariable}
use Rattle.rule_schemes.specs.Said.{Written, a_term, a_judgment, a_context, OccursInEntries, OccursInWritten}
use Rattle.notation_parser.specs.Renaming.{renamed, renamed_values, renamed_parts, renamed_entry, renamed_known, renamed_written, OccursInKnowns, OccursInWanted}

-- what occurs before the numbering occurs after it, with its new number
module _ (new : ℕ → ℕ) (m : ℕ) where
  mutual
    scheme_there : (s : SchemeTree) → OccursIn m s → OccursIn (new m) (renamed new s)
    scheme_there (meta n vs) (inl e) = inl (ap new e)
    scheme_there (meta n vs) (inr o) = inr (values_there vs o)
    scheme_there (known k) o = o
    scheme_there (local i) o = o
    scheme_there (con p xs) o = parts_there xs o

    values_there : (vs : Values) → OccursInValues m vs → OccursInValues (new m) (renamed_values new vs)
    values_there no_values o = o
    values_there (value s vs) (inl o) = inl (scheme_there s o)
    values_there (value s vs) (inr o) = inr (values_there vs o)

    parts_there : (xs : Parts) → OccursInParts m xs → OccursInParts (new m) (renamed_parts new xs)
    parts_there no_parts o = o
    parts_there (part n s xs) (inl o) = inl (scheme_there s o)
    parts_there (part n s xs) (inr o) = inr (parts_there xs o)

  schemes_there : (ss : List SchemeTree) → AnyByRecursion (OccursIn m) ss → AnyByRecursion (OccursIn (new m)) (map (renamed new) ss)
  schemes_there [] o = o
  schemes_there (s ∷ ss) (inl o) = inl (scheme_there s o)
  schemes_there (s ∷ ss) (inr o) = inr (schemes_there ss o)

  entries_there : (es : List SchemeEntry) → OccursInEntries m es → OccursInEntries (new m) (map (renamed_entry new) es)
  entries_there [] o = o
  entries_there (e ∷ es) (inl o) = inl (schemes_there e.args o)
  entries_there (e ∷ es) (inr o) = inr (entries_there es o)

  knowns_there : (ks : List KnownVariable) → OccursInKnowns m ks → OccursInKnowns (new m) (map (renamed_known new) ks)
  knowns_there [] o = o
  knowns_there (k ∷ ks) (inl o) = inl (schemes_there k.entry.args o)
  knowns_there (k ∷ ks) (inr o) = inr (knowns_there ks o)

  written_there : (w : Written) → OccursInWritten m w → OccursInWritten (new m) (renamed_written new w)
  written_there (a_term s) o = scheme_there s o
  written_there (a_judgment j) (inl o) = inl (entries_there j.context.entries o)
  written_there (a_judgment j) (inr o) = inr (schemes_there j.args o)
  written_there (a_context ctx) o = entries_there ctx.entries o

  pub wanted_there : (w : Written) (ks : List KnownVariable) → OccursInWanted m w ks → OccursInWanted (new m) (renamed_written new w) (map (renamed_known new) ks)
  wanted_there w ks (inl o) = inl (written_there w o)
  wanted_there w ks (inr o) = inr (knowns_there ks o)

-- the old number of what occurs after the numbering
module _ (new : ℕ → ℕ) (k : ℕ) where
  abbrev From : (ℕ → Type 0) → Type 0
  From Occurs = (m : ℕ) × (new m ≡ k) × Occurs m

  weaker : {P Q : ℕ → Type 0} → ((m : ℕ) → P m → Q m) → From P → From Q
  weaker f h = (h.0, h.1, f h.0 h.2)

  mutual
    scheme_from : (s : SchemeTree) → OccursIn k (renamed new s) → From (λ m. OccursIn m s)
    scheme_from (meta n vs) (inl e) = (n, e, inl refl)
    scheme_from (meta n vs) (inr o) = weaker (λ m p. inr p) (values_from vs o)
    scheme_from (known n) o = absurd o
    scheme_from (local i) o = absurd o
    scheme_from (con p xs) o = parts_from xs o

    values_from : (vs : Values) → OccursInValues k (renamed_values new vs) → From (λ m. OccursInValues m vs)
    values_from no_values o = absurd o
    values_from (value s vs) (inl o) = weaker (λ m p. inl p) (scheme_from s o)
    values_from (value s vs) (inr o) = weaker (λ m p. inr p) (values_from vs o)

    parts_from : (xs : Parts) → OccursInParts k (renamed_parts new xs) → From (λ m. OccursInParts m xs)
    parts_from no_parts o = absurd o
    parts_from (part n s xs) (inl o) = weaker (λ m p. inl p) (scheme_from s o)
    parts_from (part n s xs) (inr o) = weaker (λ m p. inr p) (parts_from xs o)

  schemes_from : (ss : List SchemeTree) → AnyByRecursion (OccursIn k) (map (renamed new) ss) → From (λ m. AnyByRecursion (OccursIn m) ss)
  schemes_from [] o = absurd o
  schemes_from (s ∷ ss) (inl o) = weaker (λ m p. inl p) (scheme_from s o)
  schemes_from (s ∷ ss) (inr o) = weaker (λ m p. inr p) (schemes_from ss o)

  entries_from : (es : List SchemeEntry) → OccursInEntries k (map (renamed_entry new) es) → From (λ m. OccursInEntries m es)
  entries_from [] o = absurd o
  entries_from (e ∷ es) (inl o) = weaker (λ m p. inl p) (schemes_from e.args o)
  entries_from (e ∷ es) (inr o) = weaker (λ m p. inr p) (entries_from es o)

  knowns_from : (ks : List KnownVariable) → OccursInKnowns k (map (renamed_known new) ks) → From (λ m. OccursInKnowns m ks)
  knowns_from [] o = absurd o
  knowns_from (x ∷ ks) (inl o) = weaker (λ m p. inl p) (schemes_from x.entry.args o)
  knowns_from (x ∷ ks) (inr o) = weaker (λ m p. inr p) (knowns_from ks o)

  written_from : (w : Written) → OccursInWritten k (renamed_written new w) → From (λ m. OccursInWritten m w)
  written_from (a_term s) o = scheme_from s o
  written_from (a_judgment j) (inl o) = weaker (λ m p. inl p) (entries_from j.context.entries o)
  written_from (a_judgment j) (inr o) = weaker (λ m p. inr p) (schemes_from j.args o)
  written_from (a_context ctx) o = entries_from ctx.entries o

  pub wanted_from : (w : Written) (ks : List KnownVariable) → OccursInWanted k (renamed_written new w) (map (renamed_known new) ks) → (m : ℕ) × (new m ≡ k) × OccursInWanted m w ks
  wanted_from w ks (inl o) = weaker (λ m p. inl p) (written_from w o)
  wanted_from w ks (inr o) = weaker (λ m p. inr p) (knowns_from ks o)

-- what has no other metavariables than those that keep their numbers stays as it is
module _ (new : ℕ → ℕ) where
  mutual
    scheme_same : (s : SchemeTree) → ((m : ℕ) → OccursIn m s → new m ≡ m) → renamed new s ≡ s
    scheme_same (meta m vs) h = ap (λ n. meta n (renamed_values new vs)) (h m (inl refl)) ∙ ap (meta m) (values_same vs (λ n o. h n (inr o)))
    scheme_same (known k) h = refl
    scheme_same (local i) h = refl
    scheme_same (con p xs) h = ap (con p) (parts_same xs h)

    values_same : (vs : Values) → ((m : ℕ) → OccursInValues m vs → new m ≡ m) → renamed_values new vs ≡ vs
    values_same no_values h = refl
    values_same (value s vs) h = ap (λ x. value x (renamed_values new vs)) (scheme_same s (λ n o. h n (inl o))) ∙ ap (value s) (values_same vs (λ n o. h n (inr o)))

    parts_same : (xs : Parts) → ((m : ℕ) → OccursInParts m xs → new m ≡ m) → renamed_parts new xs ≡ xs
    parts_same no_parts h = refl
    parts_same (part n s xs) h = ap (λ x. part n x (renamed_parts new xs)) (scheme_same s (λ m o. h m (inl o))) ∙ ap (part n s) (parts_same xs (λ m o. h m (inr o)))

  schemes_same : (ss : List SchemeTree) → ((m : ℕ) → AnyByRecursion (OccursIn m) ss → new m ≡ m) → map (renamed new) ss ≡ ss
  schemes_same [] h = refl
  schemes_same (s ∷ ss) h = ap (λ x. x ∷ map (renamed new) ss) (scheme_same s (λ n o. h n (inl o))) ∙ ap (λ xs. s ∷ xs) (schemes_same ss (λ n o. h n (inr o)))

  -- a known variable whose entry has no metavariable that is moved
  pub known_same : (k : KnownVariable) → ((m : ℕ) → AnyByRecursion (OccursIn m) k.entry.args → new m ≡ m) → renamed_known new k ≡ k
  known_same k h = ap (λ (ss : List SchemeTree). record { name = k.name; entry = record { prod = k.entry.prod; args = ss } }) (schemes_same k.entry.args h)
