-- A writer that takes bytes turn by turn.
use Rattle.std.proofs.Common.{ℕ, ◌-◌, List, ◌++◌, length, take, drop, Option, Some, None, sym, ◌∙◌, ap, append_assoc}
use Rattle.std.proofs.lemmas.List.{take-append-drop}
use Rattle.binding_terms.proofs.Lists.{rest_taken}
use Rattle.std.specs.Io.KnownBytes.{Appends}
use Rattle.sy_base.specs.Edge.{TookUpTo}

appends_more : (old mid new : Option (List ℕ)) (first second : List ℕ) → Appends old mid first → Appends mid new second → Appends old new (first ++ second)
appends_more None mid new first second one other = tt
appends_more (Some xs) None new first second one other = absurd one
appends_more (Some xs) (Some ys) None first second one other = absurd other
appends_more (Some xs) (Some ys) (Some zs) first second one other = other ∙ ap (λ (bytes : List ℕ). bytes ++ second) one ∙ append_assoc xs first second

pub took_more : (count : ℕ) (rest : List ℕ) (old mid new : Option (List ℕ)) (bytes : List ℕ) → TookUpTo rest old mid bytes → Appends mid new (take count rest)
    → TookUpTo (take (length rest - count) (drop count rest)) old new bytes
took_more count rest old mid new bytes took more = record {
  front = took.front ++ take count rest;
  parts = rw (rest_taken rest count)
      (took.parts ∙ ap (λ (rest : List ℕ). took.front ++ rest) (sym (take-append-drop count rest)) ∙ sym (append_assoc took.front (take count rest) (drop count rest)));
  appended = appends_more old mid new took.front (take count rest) took.appended more;
}
