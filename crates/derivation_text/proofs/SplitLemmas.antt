-- The first line of a text is the tokens up to the first on another line.
use Rattle.std.proofs.Common.{◌≡◌, ◌≢◌, ◌<◌, ℕ, ◌==◌, Bool, true, false, List, [], ◌∷◌, ◌++◌, length, map, refl, ap, ◌∙◌, sym, subst, arith, get_or, if◌then◌else◌}
use Rattle.std.specs.List.{AllByRecursion}
use Rattle.std.proofs.lemmas.Bool.{eq-eqb, ne_eqb}
use Rattle.sy_base.specs.Tokens.{PlainToken}
use Rattle.proof_lexer.specs.View.{token_view}
use Rattle.proof_lexer.specs.View as lexed
use Rattle.proof_lexer.specs.declared.token.Kind.{Kind}
use Rattle.proof_lexer.specs.declared.token.Kind.TheVariants.{Word, Symbol, Punct, Bar, Quoted}
use Rattle.proof_lexer.specs.declared.token.Token.{Token}
use Rattle.rule_schemes.specs.Reading.{Token as Read}
use Rattle.term_reader.specs.View.{token, kind_number}
use Rattle.derivation_text.specs.Lines.{Line, taken, in_front, text_lines}
use Rattle.derivation_text.specs.Splitting.{IsOtherLine, IsLineCut, IsFirstLine}

same_kind : (k : Kind) → lexed.kind_number k ≡ kind_number k
same_kind Word = refl
same_kind Symbol = refl
same_kind Punct = refl
same_kind Bar = refl
same_kind Quoted = refl

pub taken_token : (t : Token) → taken (token_view t) ≡ token t
taken_token t = λ i. (same_kind t.kind i, t.text.now)

chosen : {A : Type 0} (b : Bool) (x y : A) → b ≡ true → (if b then x else y) ≡ x
chosen b x y e = ap (λ (c : Bool). if c then x else y) e

other : {A : Type 0} (b : Bool) (x y : A) → b ≡ false → (if b then x else y) ≡ y
other b x y e = ap (λ (c : Bool). if c then x else y) e

front_same : (n : ℕ) (t : Read) (l : Line) (ls : List Line) → n ≡ l.0 → in_front n t (l ∷ ls) ≡ (n, t ∷ l.1) ∷ ls
front_same n t l ls e = chosen (n == l.0) ((n, t ∷ l.1) ∷ ls) ((n, t ∷ []) ∷ (l ∷ ls)) (eq-eqb n l.0 e)

front_other : (n : ℕ) (t : Read) (l : Line) (ls : List Line) → n ≢ l.0 → in_front n t (l ∷ ls) ≡ (n, t ∷ []) ∷ (l ∷ ls)
front_other n t l ls e = other (n == l.0) ((n, t ∷ l.1) ∷ ls) ((n, t ∷ []) ∷ (l ∷ ls)) (ne_eqb n l.0 e)

-- a line begins with the number of its first token
pub record BeginsWith (n : ℕ) (lines : List Line) : Type 0 where
  pub line : Line
  pub rest : List Line
  pub lines_are : lines ≡ line ∷ rest
  pub number : line.0 ≡ n

front_begins : (b : Bool) (n : ℕ) (x y : Line) (xs ys : List Line) → x.0 ≡ n → y.0 ≡ n → BeginsWith n (if b then x ∷ xs else (y ∷ ys))
front_begins true n x y xs ys e f = record { line = x; rest = xs; lines_are = refl; number = e }
front_begins false n x y xs ys e f = record { line = y; rest = ys; lines_are = refl; number = f }

pub begins : (t : PlainToken) (ts : List PlainToken) → BeginsWith t.line (text_lines (t ∷ ts))
begins t ts = at (text_lines ts) where
  at : (ls : List Line) → BeginsWith t.line (in_front t.line (taken t) ls)
  at [] = record { line = (t.line, taken t ∷ []); rest = []; lines_are = refl; number = refl }
  at (l ∷ ls) = front_begins (t.line == l.0) t.line (t.line, taken t ∷ l.1) (t.line, taken t ∷ []) ls (l ∷ ls) refl refl

last_token : (t : Token) (b : List Token) → IsOtherLine t.line b → text_lines (token_view t ∷ map token_view b) ≡ (t.line, taken (token_view t) ∷ []) ∷ text_lines (map token_view b)
last_token t [] h = refl
last_token t (u ∷ us) h =
    let next = begins (token_view u) (map token_view us) in
    ap (in_front t.line (taken (token_view t))) next.lines_are
    ∙ front_other t.line (taken (token_view t)) next.line next.rest (λ e. h (sym (e ∙ next.number)))
    ∙ ap (λ (ls : List Line). (t.line, taken (token_view t) ∷ []) ∷ ls) (sym next.lines_are)

whole_line : (n : ℕ) (t : Token) (a b : List Token) → t.line ≡ n → AllByRecursion (λ u. u.line ≡ n) a → IsOtherLine n b
    → text_lines (map token_view (t ∷ (a ++ b))) ≡ (n, map token (t ∷ a)) ∷ text_lines (map token_view b)
whole_line n t [] b e all h =
    last_token t b (subst (λ (m : ℕ). IsOtherLine m b) (sym e) h)
    ∙ (λ i. (e i, taken_token t i ∷ []) ∷ text_lines (map token_view b))
whole_line n t (u ∷ a) b e all h =
    ap (in_front t.line (taken (token_view t))) (whole_line n u a b all.0 all.1 h)
    ∙ front_same t.line (taken (token_view t)) (n, map token (u ∷ a)) (text_lines (map token_view b)) e
    ∙ (λ i. (e i, taken_token t i ∷ map token (u ∷ a)) ∷ text_lines (map token_view b))

first_of : (ts a b : List Token) (d : Token) → 0 < length ts → IsLineCut (get_or ts 0 d).line ts a b → (t : Token) × (as_is : List Token) × (a ≡ t ∷ as_is) × (t.line ≡ (get_or ts 0 d).line)
first_of [] a b d some cut = absurd (omega arith)
first_of (t ∷ ts) [] b d some cut = absurd (subst (IsOtherLine t.line) (sym cut.parts) cut.stops refl)
first_of (t ∷ ts) (u ∷ a) b d some cut = (u, a, refl, cut.on_line.0)

pub first_is : (ts a b : List Token) (d : Token) → 0 < length ts → IsLineCut (get_or ts 0 d).line ts a b → IsFirstLine (map token_view ts) (map token a) (map token_view b)
first_is ts a b d some cut =
    let n = (get_or ts 0 d).line in
    let first = first_of ts a b d some cut in
    let on_line = subst (AllByRecursion (λ t. t.line ≡ n)) first.2 cut.on_line in (
      n,
      ap (λ (x : List Token). text_lines (map token_view x)) (cut.parts ∙ ap (λ (x : List Token). x ++ b) first.2)
          ∙ whole_line n first.0 first.1 b first.3 on_line.1 cut.stops
          ∙ ap (λ (x : List Token). (n, map token x) ∷ text_lines (map token_view b)) (sym first.2),
    )

pub first_some : (ts a b : List Token) (d : Token) → 0 < length ts → IsLineCut (get_or ts 0 d).line ts a b → 0 < length a
first_some ts a b d some cut = (let first = first_of ts a b d some cut in let size = ap length first.2 in omega arith)
