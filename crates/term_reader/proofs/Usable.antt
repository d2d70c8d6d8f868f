-- What the calls on splits and on their slots ask for.
use Rattle.std.proofs.Common.{◌≡◌, ◌≢◌, ℕ, ◌+◌, ◌-◌, ◌<◌, ◌≤◌, List, [], ◌∷◌, ◌++◌, length, map, take, drop, get_or, ap, ◌∙◌, sym, subst, arith}
use Rattle.std.specs.List.{AllByRecursion}
use Rattle.std.proofs.lemmas.List.{drop_more, map-append, take-append-drop}
use Rattle.binding_terms.specs.Signature.{IsSingle}
use Rattle.binding_terms.specs.declared.grammar.CatId.{CatId}
use Rattle.binding_terms.specs.declared.grammar.Item.{Item}
use Rattle.term_reader.specs.Splitting.{SlotRange, Divided, slot_range, split, IsSplit, IsBracketed, AreSplits, AreKnown, AreUsable, Stands, tokens_of, AreWithin, longest, reach}
use Rattle.term_reader.specs.declared.sheet.Sheet.{Sheet}
use Rattle.term_reader.specs.declared.splitting.Piece.{Piece}
use Rattle.term_reader.specs.declared.splitting.Split.{Split}
use Rattle.term_reader.proofs.Pieces.{known_split, split_within, longest_short, brackets_within}
use Rattle.binding_terms.proofs.Lists.{all_also, all_pick, mapped_around}

-- what reading a place past the end would give
abbrev pub no_piece : Piece
no_piece = record { cat = record { 0 = 0 }; binds = record { ref_ptr = (0, 0); now = [] }; from = 0; to = 0 }

longest_middle : (front rest : List SlotRange) (p : SlotRange) → p.to - p.from ≤ longest (front ++ (p ∷ rest))
longest_middle [] rest p = omega arith
longest_middle (q ∷ front) rest p = omega (arith, longest_middle front rest p)

pub longest_at : (ps : List Piece) (j : ℕ) (p : Piece) → j < length ps → (slot_range (get_or ps j p)).to - (slot_range (get_or ps j p)).from ≤ longest (map slot_range ps)
longest_at ps j p h =
    subst (λ qs. (slot_range (get_or ps j p)).to - (slot_range (get_or ps j p)).from ≤ longest qs) (sym (mapped_around slot_range ps j p h))
    (longest_middle (map slot_range (take j ps)) (map slot_range (drop (j + 1) ps)) (slot_range (get_or ps j p)))

reach_middle : (front rest : List Divided) (d : Divided) → longest d.1 + 1 ≤ reach (front ++ (d ∷ rest))
reach_middle [] rest d = omega arith
reach_middle (e ∷ front) rest d = omega (arith, reach_middle front rest d)

pub reach_at : (all : List Split) (j : ℕ) (here : Split) → j < length all → here ≡ get_or all j here → longest (split here).1 + 1 ≤ reach (map split all)
reach_at all j here h is =
    let e : map split all ≡ map split (take j all) ++ (split here ∷ map split (drop (j + 1) all)) =
    mapped_around split all j here h ∙ ap (λ s. map split (take j all) ++ (split s ∷ map split (drop (j + 1) all))) (sym is) in
    subst (λ qs. longest (split here).1 + 1 ≤ reach qs) (sym e) (reach_middle (map split (take j all)) (map split (drop (j + 1) all)) (split here))

pub split_at : (P : Divided → Type 0) (all : List Split) (j : ℕ) (here : Split) → j < length all → here ≡ get_or all j here → AllByRecursion P (map split all) → P (split here)
split_at P all j here h is all_hold = subst (λ s. P (split s)) (sym is) (all_pick split P all j here h all_hold)

reach_all : (all : List Divided) (m : ℕ) → AllByRecursion (λ (d : Divided). longest d.1 < m) all → reach all ≤ m
reach_all [] m h = omega arith
reach_all (d ∷ all) m h = let one = h.0 in omega (arith, one, reach_all all m h.1)

module _ (sheet : Sheet) (n to : ℕ) (within : to ≤ length sheet.tokens.now) where
  lies : (ps : List SlotRange) → AreWithin to ps → AreWithin (length sheet.tokens.now) ps
  lies ps w = all_also (λ (p : SlotRange). (p.from ≤ p.to) × (p.to ≤ to)) (λ (p : SlotRange). (p.from ≤ p.to) × (p.to ≤ length sheet.tokens.now)) ps
      (λ p h. (h.0, (let le = h.1 in omega (arith, le)))) w

  -- splits of several items
  pub usable_splits : (items : List Item) (all : List Divided) → AreSplits (Stands sheet) (IsSplit sheet.sig.now (tokens_of sheet) to items n) all → AreUsable sheet all
  usable_splits items all s =
      all_also (λ (d : Divided). IsSplit sheet.sig.now (tokens_of sheet) to items n d.0 d.1) (λ (d : Divided). AreKnown sheet d.0 × AreWithin (length sheet.tokens.now) d.1) all
      (λ d h. (known_split sheet to items n d.0 d.1 h, lies d.1 (split_within sheet.sig.now (tokens_of sheet) to items n d.0 d.1 h))) s.each

  pub reach_splits : (items : List Item) (all : List Divided) → items ≢ [] → (IsSingle items → ⊥)
      → AreSplits (Stands sheet) (IsSplit sheet.sig.now (tokens_of sheet) to items n) all → reach all ≤ to - n
  reach_splits items all some single s = reach_all all (to - n)
      (all_also (λ (d : Divided). IsSplit sheet.sig.now (tokens_of sheet) to items n d.0 d.1) (λ (d : Divided). longest d.1 < to - n) all
      (λ d h. (let short = longest_short sheet.sig.now (tokens_of sheet) to items n d.0 d.1 some single h in omega (arith, short))) s.each)

  -- splits of brackets
  pub usable_brackets : (params : List CatId) (all : List Divided) → AreSplits (Stands sheet) (IsBracketed (tokens_of sheet) to params n) all → AreUsable sheet all
  usable_brackets params all s =
      all_also (λ (d : Divided). IsBracketed (tokens_of sheet) to params n d.0 d.1) (λ (d : Divided). AreKnown sheet d.0 × AreWithin (length sheet.tokens.now) d.1) all
      (λ d h. (let w = brackets_within (tokens_of sheet) to params n d.0 d.1 h in (subst (AreKnown sheet) (sym w.2) tt, lies d.1 w.0))) s.each

  pub reach_brackets : (params : List CatId) (all : List Divided) → n ≤ to
      → AreSplits (Stands sheet) (IsBracketed (tokens_of sheet) to params n) all → reach all ≤ to - n + 1
  reach_brackets params all le s = reach_all all (to - n + 1)
      (all_also (λ (d : Divided). IsBracketed (tokens_of sheet) to params n d.0 d.1) (λ (d : Divided). longest d.1 < to - n + 1) all
      (λ d h. (let w = brackets_within (tokens_of sheet) to params n d.0 d.1 h in let short = w.1 in omega (arith, short))) s.each)
