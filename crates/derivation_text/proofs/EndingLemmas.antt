-- The arguments and names of the last line of a text.
use Rattle.std.proofs.Common.{◌≡◌, ◌<◌, ◌≤◌, ◌+◌, ℕ, length-drop, ◌==◌, Bool, true, false, ◌&&◌, IsTrue, List, [], ◌∷◌, ◌++◌, length, map, take, drop, refl, ap, ◌∙◌, sym, subst, arith, get_or, Some, None, nat_eq, if◌then◌else◌, option_map, append-nil, append_assoc, inl, inr, true≢false, drop-cons, add-one}
use Rattle.std.specs.Prelude.{Option, is_some, Result, Ok, Err, IfOk, IfSome, MatchBool, MatchOption, ◌-◌}
use Rattle.std.proofs.Math.Seq.{take-suc}
use Rattle.std.proofs.lemmas.List.{map-append, drop-drop, take_all}
use Rattle.std.specs.List.{AllByRecursion}
use Rattle.rule_schemes.specs.Reading.{word, punctuation}
use Rattle.rule_schemes.specs.Reading.{Token as Read}
use Rattle.proof_lexer.specs.declared.token.Token.{Token}
use Rattle.term_reader.specs.View.{token}
use Rattle.derivation_text.specs.Forms.{IsBalanced, at_end, opens, closes, neither, Argument, by_name, enclosed, IsForm, IsArgument, argument_tokens, further_arguments, arguments_tokens, APPLY, GIVES, is_name, AreNames, further_names, names_tokens}
use Rattle.derivation_text.specs.Valid.{tree_named, no_last, applied, given_out, IsLast, IsKnown, IsKnownArgument}
use Rattle.derivation_text.specs.Found.{is_name_token, with_first}
use Rattle.std.specs.Str.{bytes_eq}
use Rattle.rule_schemes.specs.Derivation.{Derivation}
use Rattle.derivation_text.proofs.CitedLemmas.{if_true, with_some, comma_is}
use Rattle.derivation_text.specs.Ending as spec
use Rattle.derivation_text.specs.Ending.{Closes, HasNoClosing, Turns, IsFront, HasNoFront, IsRest, HasNoRest, IsArguments, HasNoArguments, HasNoLast}
use Rattle.derivation_text.specs.Contents.{argument}
use Rattle.derivation_text.specs.declared.arguments.Argued.{Argued}
use Rattle.derivation_text.specs.declared.derivs.Named.{Named}
use Rattle.derivation_text.proofs.NodeLemmas.{name_is_word}
use Rattle.binding_terms.proofs.Lists.{cons_head, cons_tail, if_some, map_empty_back, nothing_around}

-- at the end of the further names
pub further_end : (known : List Named) (names : List (List ℕ)) (rest : List Token) → length rest < 2
    → (if nat_eq (length rest) 0 then Some names else None) ≡ option_map (λ ws. names ++ ws) (spec.further_known known (map token rest))
further_end known names [] short = ap Some (sym (append-nil names))
further_end known names (t ∷ []) short = refl
further_end known names (t ∷ (u ∷ ts)) short = absurd (omega arith)

apart : punctuation 40 ≡ punctuation 41 → ⊥
apart e = (let n : ◌≡◌ {A = ℕ} 40 41 = ap (λ (t : Read). get_or t.1 0 0) e in absurd (omega (arith, n)))

-- what is read up to a place of the tokens, and what is still to come
pub record Passes (whole front back : List Read) (n : ℕ) : Type 0 where
  pub forth : (form rest : List Read) → Closes 0 whole form rest → (more : List Read) × (form ≡ front ++ more) × Closes n back more rest
  pub back_from : (more rest : List Read) → Closes n back more rest → Closes 0 whole (front ++ more) rest

-- what stands behind the first token of a balanced form
after_token : (n m : ℕ) (t : Read) (ts : List Read) → Turns n t m → IsBalanced n (t ∷ ts) → IsBalanced m ts
after_token n m t ts (inl h) (opens e b) = subst (λ (k : ℕ). IsBalanced k ts) (sym h.1) b
after_token n m t ts (inr (inl h)) (opens e b) = absurd (apart (sym e ∙ h.0))
after_token n m t ts (inr (inr h)) (opens e b) = absurd (h.0 e)
after_token n m t ts (inl h) (closes e k b) = absurd (apart (sym h.0 ∙ e))
after_token n m t ts (inr (inl h)) (closes {m = l} e k b) = (let same : l ≡ m = omega (arith, k, h.1) in subst (λ (j : ℕ). IsBalanced j ts) same b)
after_token n m t ts (inr (inr h)) (closes e k b) = absurd (h.1 e)
after_token n m t ts (inl h) (neither e f b) = absurd (e h.0)
after_token n m t ts (inr (inl h)) (neither e f b) = absurd (f h.0)
after_token n m t ts (inr (inr h)) (neither e f b) = subst (λ (k : ℕ). IsBalanced k ts) (sym h.2) b

before_token : (n m : ℕ) (t : Read) (ts : List Read) → Turns n t m → IsBalanced m ts → IsBalanced n (t ∷ ts)
before_token n m t ts (inl h) b = opens h.0 (subst (λ (k : ℕ). IsBalanced k ts) h.1 b)
before_token n m t ts (inr (inl h)) b = closes h.0 h.1 b
before_token n m t ts (inr (inr h)) b = neither h.0 h.1 (subst (λ (k : ℕ). IsBalanced k ts) h.2 b)

-- a token that closes one more than are open turns to nothing
not_first : (n m : ℕ) (t : Read) → Turns n t m → t ≡ punctuation 41 → IsBalanced n [] → ⊥
not_first n m t (inl h) e b = apart (sym h.0 ∙ e)
not_first n m t (inr (inl h)) e (at_end k) = absurd (omega (arith, k, h.1))
not_first n m t (inr (inr h)) e b = h.1 e

closes_after : (n m : ℕ) (t : Read) (back more rest : List Read) → Turns n t m → Closes n (t ∷ back) more rest
    → (left : List Read) × (more ≡ t ∷ left) × Closes m back left rest
closes_after n m t back [] rest turns h = absurd (not_first n m t turns (cons_head h.tokens_are) h.balanced)
closes_after n m t back (u ∷ more) rest turns h =
    let same : t ≡ u = cons_head h.tokens_are in (
      more,
      ap (λ (x : Read). x ∷ more) (sym same),
      record { tokens_are = cons_tail h.tokens_are; balanced = after_token n m t more turns (subst (λ (x : Read). IsBalanced n (x ∷ more)) (sym same) h.balanced) },
    )

closes_before : (n m : ℕ) (t : Read) (back more rest : List Read) → Turns n t m → Closes m back more rest → Closes n (t ∷ back) (t ∷ more) rest
closes_before n m t back more rest turns h =
    record { tokens_are = ap (λ (x : List Read). t ∷ x) h.tokens_are; balanced = before_token n m t more turns h.balanced }

joined : (front more : List Read) (t : Read) → (front ++ t ∷ []) ++ more ≡ front ++ t ∷ more
joined front more t = append_assoc front (t ∷ []) more

passes_one : (whole front back : List Read) (t : Read) (n m : ℕ) → Passes whole front (t ∷ back) n → Turns n t m → Passes whole (front ++ t ∷ []) back m
passes_one whole front back t n m p turns =
    record {
      forth = λ form rest h.
          (let first = p.forth form rest h in
          let next = closes_after n m t back first.0 rest turns first.2 in
          (next.0, first.1 ∙ ap (λ (x : List Read). front ++ x) next.1 ∙ sym (joined front next.0 t), next.2));
      back_from = λ more rest h.
          subst (λ (x : List Read). Closes 0 whole x rest) (sym (joined front more t)) (p.back_from (t ∷ more) rest (closes_before n m t back more rest turns h));
    }

split_drop : (tokens : List Token) (i : ℕ) (d : Token) → i < length tokens → map token (drop i tokens) ≡ token (get_or tokens i d) ∷ map token (drop (i + 1) tokens)
split_drop tokens i d within = ap (map token) (drop-cons tokens i d within ∙ (λ k. get_or tokens i d ∷ drop (sym (add-one i) k) tokens))

split_take : (tokens : List Token) (i : ℕ) (d : Token) → i < length tokens → map token (take (i + 1) tokens) ≡ map token (take i tokens) ++ token (get_or tokens i d) ∷ []
split_take tokens i d within =
    ap (λ (j : ℕ). map token (take j tokens)) (add-one i) ∙ ap (map token) (take-suc tokens i d within) ∙ map-append token (take i tokens) (get_or tokens i d ∷ [])

pub passes_next : (tokens : List Token) (i : ℕ) (d : Token) (whole : List Read) (n m : ℕ) → i < length tokens
    → Passes whole (map token (take i tokens)) (map token (drop i tokens)) n → Turns n (token (get_or tokens i d)) m
    → Passes whole (map token (take (i + 1) tokens)) (map token (drop (i + 1) tokens)) m
passes_next tokens i d whole n m within p turns =
    subst (λ (x : List Read). Passes whole x (map token (drop (i + 1) tokens)) m) (sym (split_take tokens i d within))
    (passes_one whole (map token (take i tokens)) (map token (drop (i + 1) tokens)) (token (get_or tokens i d)) n m
    (subst (λ (x : List Read). Passes whole (map token (take i tokens)) x n) (split_drop tokens i d within) p) turns)

drop_past : (tokens : List Token) (i : ℕ) → length tokens ≤ i → drop i tokens ≡ []
drop_past tokens i past = map_empty_back (drop i tokens) (omega (arith, length-drop i tokens)) where
  map_empty_back : (xs : List Token) → length xs ≡ 0 → xs ≡ []
  map_empty_back [] e = refl
  map_empty_back (x ∷ xs) e = absurd (omega arith)

pub passes_end : (whole front : List Read) (n : ℕ) → Passes whole front [] n → HasNoClosing whole
passes_end whole front n p form rest h =
    let first = p.forth form rest h in
    nothing_around (punctuation 41) first.0 rest first.2.tokens_are

pub passes_found : (tokens : List Token) (i : ℕ) (d : Token) (n : ℕ) → i < length tokens
    → Passes (map token tokens) (map token (take i tokens)) (map token (drop i tokens)) n → token (get_or tokens i d) ≡ punctuation 41 → n ≡ 0
    → Closes 0 (map token tokens) (map token (take i tokens)) (map token (drop (i + 1) tokens))
passes_found tokens i d n within p closing zero_open =
    let rest = map token (drop (i + 1) tokens) in
    let whole = map token tokens in
    let here : Closes n (map token (drop i tokens)) [] rest =
    record { tokens_are = split_drop tokens i d within ∙ ap (λ (t : Read). t ∷ rest) closing; balanced = at_end zero_open } in
    subst (λ (x : List Read). Closes 0 whole x rest) (append-nil (map token (take i tokens))) (p.back_from [] rest here)

pub none_left : (tokens : List Token) (i : ℕ) (n : ℕ) → length tokens ≤ i → Passes (map token tokens) (map token (take i tokens)) (map token (drop i tokens)) n → HasNoClosing (map token tokens)
none_left tokens i n past p =
    passes_end (map token tokens) (map token (take i tokens)) n
    (subst (λ (x : List Token). Passes (map token tokens) (map token (take i tokens)) (map token x) n) (drop_past tokens i past) p)

ends_closed : (n : ℕ) (t : Read) (ts : List Read) → t ≡ punctuation 41 → IsBalanced n [] → IsBalanced n (t ∷ ts) → ⊥
ends_closed n t ts e (at_end z) (opens f b) = apart (sym f ∙ e)
ends_closed n t ts e (at_end z) (closes f k b) = absurd (omega (arith, z, k))
ends_closed n t ts e (at_end z) (neither f g b) = g e

balanced_turn : (n : ℕ) (t : Read) (ts : List Read) → IsBalanced n (t ∷ ts) → (m : ℕ) × Turns n t m
balanced_turn n t ts (opens e b) = (n + 1, inl (e, refl))
balanced_turn n t ts (closes {m = m} e k b) = (m, inr (inl (e, k)))
balanced_turn n t ts (neither e f b) = (n, inr (inr (e, f, refl)))

balanced_once : (n : ℕ) (f g r s : List Read) → f ++ punctuation 41 ∷ r ≡ g ++ punctuation 41 ∷ s → IsBalanced n f → IsBalanced n g → (f ≡ g) × (r ≡ s)
balanced_once n [] [] r s e a b = (refl, cons_tail e)
balanced_once n [] (y ∷ g) r s e a b = absurd (ends_closed n y g (sym (cons_head e)) a b)
balanced_once n (x ∷ f) [] r s e a b = absurd (ends_closed n x f (cons_head e) b a)
balanced_once n (x ∷ f) (y ∷ g) r s e a b =
    let same : x ≡ y = cons_head e in
    let turn = balanced_turn n x f a in
    let rest = balanced_once turn.0 f g r s (cons_tail e) (after_token n turn.0 x f turn.1 a)
    (after_token n turn.0 x g turn.1 (subst (λ (t : Read). IsBalanced n (t ∷ g)) (sym same) b)) in
    (λ i. same i ∷ rest.0 i, rest.1)

-- a form ends at the one parenthesis that closes it
pub closes_once : (n : ℕ) (ts f g r s : List Read) → Closes n ts f r → Closes n ts g s → (f ≡ g) × (r ≡ s)
closes_once n ts f g r s a b = balanced_once n f g r s (sym a.tokens_are ∙ b.tokens_are) a.balanced b.balanced

kinds : (w v : List ℕ) → word w ≡ (2, v) → ⊥
kinds w v e = (let n : ◌≡◌ {A = ℕ} 0 2 = ap (λ (t : Read). t.0) e in absurd (omega (arith, n)))

-- an argument that a parenthesis begins is a form up to the one that closes
pub front_closes : (known : List Named) (ts : List Read) (a : Argument) (rest : List Read) → IsFront known (punctuation 40 ∷ ts) a rest
    → (form : List Read) × (a ≡ enclosed form) × IsForm form × Closes 0 ts form rest
front_closes known ts (by_name w) rest h = absurd (kinds w (40 ∷ []) (sym (cons_head h.tokens_are)))
front_closes known ts (enclosed form) rest h =
    (form, refl, h.is_argument.0, record { tokens_are = cons_tail h.tokens_are ∙ append_assoc form (punctuation 41 ∷ []) rest; balanced = h.is_argument.1 })

pub no_front_form : (known : List Named) (ts form after : List Read) → Closes 0 ts form after → (IsForm form → ⊥) → HasNoFront known (punctuation 40 ∷ ts)
no_front_form known ts form after found none a rest h =
    let closed = front_closes known ts a rest h in
    none (subst IsForm (closes_once 0 ts closed.0 form rest after closed.3 found).0 closed.2)

-- an argument and what follows it, from their tokens
pub argument_once : (a b : Argument) (r s : List Read) → IsArgument a → IsArgument b → argument_tokens a ++ r ≡ argument_tokens b ++ s → (a ≡ b) × (r ≡ s)
argument_once (by_name w) (by_name v) r s h k whole = (ap (λ (t : Read). by_name t.1) (cons_head whole), cons_tail whole)
argument_once (by_name w) (enclosed g) r s h k whole = absurd (kinds w (40 ∷ []) (cons_head whole))
argument_once (enclosed f) (by_name v) r s h k whole = absurd (kinds v (40 ∷ []) (sym (cons_head whole)))
argument_once (enclosed f) (enclosed g) r s h k whole =
    let once = balanced_once 0 f g r s (sym (append_assoc f (punctuation 41 ∷ []) r) ∙ cons_tail whole ∙ append_assoc g (punctuation 41 ∷ []) s) h.1 k.1 in
    (ap enclosed once.0, once.1)

pub front_once : (known : List Named) (ts : List Read) (a b : Argument) (r s : List Read) → IsFront known ts a r → IsFront known ts b s → (a ≡ b) × (r ≡ s)
front_once known ts a b r s h k = argument_once a b r s h.is_argument k.is_argument (sym h.tokens_are ∙ k.tokens_are)

first_argument : (known : List Named) (ts : List Read) (t : Read) (all : List Argument) → IsRest known (t ∷ ts) all
    → (a : Argument) × (more : List Argument) × (all ≡ a ∷ more) × (t ≡ punctuation 44) × IsFront known ts a (further_arguments more) × AllByRecursion IsArgument more × AllByRecursion (IsKnownArgument known) more
first_argument known ts t [] h = absurd (let e : t ∷ ts ≡ [] = h.tokens_are in cc)
first_argument known ts t (a ∷ more) h =
    (a, more, refl, cons_head h.tokens_are, record { tokens_are = cons_tail h.tokens_are; is_argument = h.are_arguments.0; is_known = h.are_known.0 }, h.are_arguments.1, h.are_known.1)

rest_none : (known : List Named) → IsRest known [] []
rest_none known = record { tokens_are = refl; are_arguments = tt; are_known = tt }

pub no_comma : (known : List Named) (t : Read) (ts : List Read) → (t ≡ punctuation 44 → ⊥) → HasNoRest known (t ∷ ts)
no_comma known t ts none all h = none (first_argument known ts t all h).3

pub no_argument : (known : List Named) (t : Read) (ts : List Read) → HasNoFront known ts → HasNoRest known (t ∷ ts)
no_argument known t ts none all h =
    let first = first_argument known ts t all h in
    none first.0 (further_arguments first.1) first.4

one_more : (known : List Named) (t : Read) (ts rest : List Read) (a : Argument) (more : List Argument) → t ≡ punctuation 44 → IsFront known ts a rest → IsRest known rest more → IsRest known (t ∷ ts) (a ∷ more)
one_more known t ts rest a more comma front h =
    let behind = front.tokens_are ∙ ap (λ (x : List Read). argument_tokens a ++ x) h.tokens_are in
    record {
      tokens_are = λ i. comma i ∷ behind i;
      are_arguments = (front.is_argument, h.are_arguments);
      are_known = (front.is_known, h.are_known);
    }

-- the arguments up to a place of the tokens, after those before, and what is still to come
pub record Gathers (known : List Named) (whole : List Read) (before now : List Argument) (back : List Read) : Type 0 where
  pub forth : (all : List Argument) → IsRest known whole all → (more : List Argument) × IsRest known back more
  pub back_from : (more : List Argument) → IsRest known back more → (all : List Argument) × (now ++ more ≡ before ++ all) × IsRest known whole all

-- one argument more
gathers_one : (known : List Named) (whole : List Read) (before now next : List Argument) (t : Read) (ts rest : List Read) (a : Argument)
    → Gathers known whole before now (t ∷ ts) → t ≡ punctuation 44 → IsFront known ts a rest → next ≡ now ++ a ∷ [] → Gathers known whole before next rest
gathers_one known whole before now next t ts rest a g comma front e =
    record {
      forth = λ all h.
          (let here = g.forth all h in
          let first = first_argument known ts t here.0 here.1 in
          let once = front_once known ts first.0 a (further_arguments first.1) rest first.4 front in
          (first.1, record { tokens_are = sym once.1; are_arguments = first.5; are_known = first.6 }));
      back_from = λ more h.
          (let all = g.back_from (a ∷ more) (one_more known t ts rest a more comma front h) in
          (all.0, ap (λ (x : List Argument). x ++ more) e ∙ (append_assoc now (a ∷ []) more ∙ all.1), all.2));
    }

gathers_end : (known : List Named) (whole : List Read) (before now : List Argument) → Gathers known whole before now []
    → (more : List Argument) × (now ≡ before ++ more) × IsRest known whole more
gathers_end known whole before now g = (let all = g.back_from [] (rest_none known) in (all.0, sym (append-nil now) ∙ all.1, all.2))

-- no argument is left
pub gathers_all : (known : List Named) (tokens : List Token) (i : ℕ) (before now : List Argument) → length tokens ≤ i
    → Gathers known (map token tokens) before now (map token (drop i tokens))
    → (more : List Argument) × (now ≡ before ++ more) × IsRest known (map token tokens) more
gathers_all known tokens i before now past g =
    gathers_end known (map token tokens) before now (subst (λ (x : List Token). Gathers known (map token tokens) before now (map token x)) (drop_past tokens i past) g)

-- the tokens from a place on
pub behind_is : (tokens : List Token) (i : ℕ) → take (length tokens - i) (drop i tokens) ≡ drop i tokens
behind_is tokens i = take_all (length tokens - i) (drop i tokens) (omega (arith, length-drop i tokens))

-- what is found after a comma
abbrev pub IsAfterComma : List Named → Read → List Token → Option Argued → Type 0
IsAfterComma known comma ts found =
    MatchOption found (HasNoRest known (comma ∷ map token ts))
    (λ p. (comma ≡ punctuation 44) × IsFront known (map token ts) (argument p.argument) (map token (drop (p.more + 1) ts)))

-- what is still to come are no arguments
pub gathers_wrong : (known : List Named) (tokens : List Token) (i : ℕ) (d : Token) (before now : List Argument) (found : Option Argued) → i < length tokens
    → Gathers known (map token tokens) before now (map token (drop i tokens))
    → IsAfterComma known (token (get_or tokens i d)) (take (length tokens - (i + 1)) (drop (i + 1) tokens)) found → found ≡ None
    → HasNoRest known (map token tokens)
gathers_wrong known tokens i d before now (Some p) within g next e = absurd (cc)
gathers_wrong known tokens i d before now None within g next e =
    λ all h.
    (let here = g.forth all h in
    let none = subst (λ (x : List Token). HasNoRest known (token (get_or tokens i d) ∷ map token x)) (behind_is tokens (i + 1)) next in
    none here.0 (subst (λ (x : List Read). IsRest known x here.0) (split_drop tokens i d within) here.1))

drop_twice : (tokens : List Token) (i n : ℕ) → drop (n + 1) (drop (i + 1) tokens) ≡ drop (i + (n + 2)) tokens
drop_twice tokens i n = (let e : (i + 1) + (n + 1) ≡ i + (n + 2) = omega arith in drop-drop (n + 1) (i + 1) tokens ∙ ap (λ (k : ℕ). drop k tokens) e)

gathers_front : (known : List Named) (tokens : List Token) (i n : ℕ) (d : Token) (before now next : List Argument) (a : Argument) → i < length tokens
    → Gathers known (map token tokens) before now (map token (drop i tokens))
    → token (get_or tokens i d) ≡ punctuation 44 → IsFront known (map token (drop (i + 1) tokens)) a (map token (drop (n + 1) (drop (i + 1) tokens)))
    → next ≡ now ++ a ∷ []
    → Gathers known (map token tokens) before next (map token (drop (i + (n + 2)) tokens))
gathers_front known tokens i n d before now next a within g comma front e =
    subst (λ (x : List Token). Gathers known (map token tokens) before next (map token x)) (drop_twice tokens i n)
    (gathers_one known (map token tokens) before now next (token (get_or tokens i d)) (map token (drop (i + 1) tokens)) _ a
    (subst (Gathers known (map token tokens) before now) (split_drop tokens i d within) g) comma front e)

pub gathers_next : (known : List Named) (tokens : List Token) (i : ℕ) (d : Token) (before now next : List Argument) (found : Option Argued) (p : Argued) → i < length tokens
    → Gathers known (map token tokens) before now (map token (drop i tokens))
    → IsAfterComma known (token (get_or tokens i d)) (take (length tokens - (i + 1)) (drop (i + 1) tokens)) found → found ≡ Some p
    → next ≡ now ++ argument p.argument ∷ []
    → Gathers known (map token tokens) before next (map token (drop (i + (p.more + 2)) tokens))
gathers_next known tokens i d before now next None p within g after e more = absurd (cc)
gathers_next known tokens i d before now next (Some q) p within g after e more =
    let same : q ≡ p = (let h : Some q ≡ Some p = e in cc) in
    let whole = subst (λ (x : List Token). IsAfterComma known (token (get_or tokens i d)) x (Some q)) (behind_is tokens (i + 1)) after in
    let here = subst (λ (x : Argued). IsAfterComma known (token (get_or tokens i d)) (drop (i + 1) tokens) (Some x)) same whole in
    gathers_front known tokens i p.more d before now next (argument p.argument) within g here.0 here.1 more

-- an argument ends within the tokens
pub next_fits : (tokens : List Token) (i : ℕ) (found : Option Argued) (p : Argued) → i < length tokens
    → IfSome found (λ x. x.more < length (take (length tokens - (i + 1)) (drop (i + 1) tokens))) → found ≡ Some p → i + (p.more + 2) ≤ length tokens
next_fits tokens i None p within short e = absurd (cc)
next_fits tokens i (Some q) p within short e =
    let same : q ≡ p = (let h : Some q ≡ Some p = e in cc) in
    omega (arith, short, ap (λ (x : Argued). x.more) same, ap length (behind_is tokens (i + 1)), length-drop (i + 1) tokens)

arguments_front : (known : List Named) (ts : List Read) (all : List Argument) → (ts ≡ [] → ⊥) → IsArguments known ts all
    → (a : Argument) × (more : List Argument) × (all ≡ a ∷ more) × IsFront known ts a (further_arguments more) × IsRest known (further_arguments more) more
arguments_front known ts [] some h = absurd (some h.tokens_are)
arguments_front known ts (a ∷ more) some h = (
  a,
  more,
  refl,
  record { tokens_are = h.tokens_are; is_argument = h.are_arguments.0; is_known = h.are_known.0 },
  record { tokens_are = refl; are_arguments = h.are_arguments.1; are_known = h.are_known.1 },
)

pub no_rest_arguments : (known : List Named) (ts rest : List Read) (a : Argument) → (ts ≡ [] → ⊥) → IsFront known ts a rest → HasNoRest known rest → HasNoArguments known ts
no_rest_arguments known ts rest a some front none all h =
    let first = arguments_front known ts all some h in
    let once = front_once known ts first.0 a (further_arguments first.1) rest first.3 front in
    none first.1 (subst (λ (x : List Read). IsRest known x first.1) once.1 first.4)

pub words_apart : APPLY ≡ GIVES → ⊥
words_apart e = (let n : ◌≡◌ {A = ℕ} 97 103 = ap (λ (w : List ℕ). get_or w 0 0) e in absurd (omega (arith, n)))

pub word_text : {w v : List ℕ} → word w ≡ word v → w ≡ v
word_text e = ap (λ (t : Read). t.1) e

pub no_word : (known : List Named) (t : Read) (ts : List Read) → (t ≡ spec.apply_word → ⊥) → (t ≡ spec.gives_word → ⊥) → HasNoLast known (t ∷ ts)
no_word known t ts a g no_last h = h
no_word known t ts a g (applied args) h = a (cons_head h.0.tokens_are)
no_word known t ts a g (given_out names) h = g (cons_head h.0.tokens_are)

pub no_tokens : (known : List Named) → HasNoLast known []
no_tokens known no_last h = h
no_tokens known (applied args) h = (let e : [] ≡ spec.apply_word ∷ arguments_tokens args = h.0.tokens_are in cc)
no_tokens known (given_out names) h = (let e : [] ≡ spec.gives_word ∷ names_tokens names = h.0.tokens_are in cc)

-- names of earlier lines
some_known : (known : List Named) (w : List ℕ) → is_some (tree_named known w) ≡ true → IsKnown known w
some_known known w h none = true≢false (sym h ∙ ap is_some none)

known_some : (known : List Named) (w : List ℕ) → IsKnown known w → is_some (tree_named known w) ≡ true
known_some known w h = at (tree_named known w) h where
  at : (o : Option Derivation) → (o ≡ None → ⊥) → is_some o ≡ true
  at None n = absurd (n refl)
  at (Some d) n = refl

record Lists (known : List Named) (spelled : List (List ℕ) → List Read) (ts : List Read) (ws : List (List ℕ)) : Type 0 where
  tokens_are : ts ≡ spelled ws
  are_names : AreNames ws
  are_known : AllByRecursion (IsKnown known) ws

name_here : (known : List Named) (t : Read) (w : List ℕ) → spec.known_name known t ≡ Some w → (t ≡ word w) × IsTrue (is_name w) × IsKnown known w
name_here known t w e =
    let named = if_some (is_name_token t) (if is_some (tree_named known t.1) then Some t.1 else None) e in
    let there = if_some (is_some (tree_named known t.1)) (Some t.1) named.1 in
    let same : t.1 ≡ w = (let h : Some t.1 ≡ Some w = there.1 in cc) in
    let name = name_is_word t named.0 in
    (name.0 ∙ ap word same, subst (λ (x : List ℕ). IsTrue (is_name x)) same name.1, subst (IsKnown known) same (some_known known t.1 there.0))

name_there : (known : List Named) (w : List ℕ) → IsTrue (is_name w) → IsKnown known w → spec.known_name known (word w) ≡ Some w
name_there known w name there =
    if_true (is_name w) (if is_some (tree_named known w) then Some w else None) None name ∙ if_true (is_some (tree_named known w)) (Some w) None (known_some known w there)

further_listed : (known : List Named) (ts : List Read) (ws : List (List ℕ)) → spec.further_known known ts ≡ Some ws → Lists known further_names ts ws
further_listed known [] ws e =
    let none : [] ≡ ws = (let h : Some [] ≡ Some ws = e in cc) in
    subst (Lists known further_names []) none (record { tokens_are = refl; are_names = tt; are_known = tt })
further_listed known (c ∷ []) ws e = absurd (cc)
further_listed known (c ∷ (t ∷ ts)) ws e =
    let comma = if_some ((c.0 == 2) && bytes_eq c.1 (44 ∷ [])) (with_first (spec.known_name known t) (spec.further_known known ts)) e in
    let parts = with_some (spec.known_name known t) (spec.further_known known ts) comma.1 in
    let rest = further_listed known ts parts.1 parts.3 in
    let here = name_here known t parts.0 parts.2 in
    let ec = comma_is c comma.0 in
    let et = here.0 in
    subst (Lists known further_names (c ∷ (t ∷ ts))) (sym parts.4)
    (record { tokens_are = λ i. ec i ∷ (et i ∷ rest.tokens_are i); are_names = (here.1, rest.are_names); are_known = (here.2, rest.are_known) })

further_found : (known : List Named) (ws : List (List ℕ)) → AreNames ws → AllByRecursion (IsKnown known) ws → spec.further_known known (further_names ws) ≡ Some ws
further_found known [] names there = refl
further_found known (w ∷ ws) names there =
    let first = name_there known w names.0 there.0 in
    let rest = further_found known ws names.1 there.1 in
    λ i. with_first (first i) (rest i)

names_listed : (known : List Named) (ts : List Read) (ws : List (List ℕ)) → spec.known_names known ts ≡ Some ws → Lists known names_tokens ts ws
names_listed known [] ws e =
    let none : [] ≡ ws = (let h : Some [] ≡ Some ws = e in cc) in
    subst (Lists known names_tokens []) none (record { tokens_are = refl; are_names = tt; are_known = tt })
names_listed known (t ∷ ts) ws e =
    let parts = with_some (spec.known_name known t) (spec.further_known known ts) e in
    let rest = further_listed known ts parts.1 parts.3 in
    let here = name_here known t parts.0 parts.2 in
    let et = here.0 in
    subst (Lists known names_tokens (t ∷ ts)) (sym parts.4)
    (record { tokens_are = λ i. et i ∷ rest.tokens_are i; are_names = (here.1, rest.are_names); are_known = (here.2, rest.are_known) })

names_found : (known : List Named) (ws : List (List ℕ)) → AreNames ws → AllByRecursion (IsKnown known) ws → spec.known_names known (names_tokens ws) ≡ Some ws
names_found known [] names there = refl
names_found known (w ∷ ws) names there =
    let first = name_there known w names.0 there.0 in
    let rest = further_found known ws names.1 there.1 in
    λ i. with_first (first i) (rest i)

pub is_given : (known : List Named) (ts : List Read) (ws : List (List ℕ)) → spec.known_names known ts ≡ Some ws → IsLast known (spec.gives_word ∷ ts) (given_out ws)
is_given known ts ws e =
    let listed = names_listed known ts ws e in
    (record { tokens_are = ap (λ (x : List Read). spec.gives_word ∷ x) listed.tokens_are; well_written = listed.are_names }, listed.are_known)

pub no_given : (known : List Named) (ts : List Read) → spec.known_names known ts ≡ None → HasNoLast known (spec.gives_word ∷ ts)
no_given known ts none no_last h = h
no_given known ts none (applied args) h = words_apart (word_text (sym (cons_head h.0.tokens_are)))
no_given known ts none (given_out names) h =
    let found = ap (spec.known_names known) (cons_tail h.0.tokens_are) ∙ names_found known names h.0.well_written h.1 in
    let clash : None ≡ Some names = sym none ∙ found in
    cc

pub false_case : (P : Type 0) {Q : Type 0} (b : Bool) → MatchBool b P Q → b ≡ false → Q
false_case P true h e = absurd (true≢false e)
false_case P false h e = h

-- the tokens after the first of an argument, and those after all of it
pub front_after : {E : Type 0} (known : List Named) (first : Token) (rest : List Token) (r : Result (Option Argued) E)
    → IfOk r (λ found. MatchOption found (HasNoFront known (map token (first ∷ rest))) (λ p. IsFront known (map token (first ∷ rest)) (argument p.argument) (map token (drop p.more rest))))
    → IfOk r (λ found. MatchOption found (HasNoFront known (map token (first ∷ rest))) (λ p. IsFront known (map token (first ∷ rest)) (argument p.argument) (map token (drop (p.more + 1) (first ∷ rest)))))
front_after known first rest (Ok (Some p)) h =
    subst (λ (n : ℕ). IsFront known (map token (first ∷ rest)) (argument p.argument) (map token (drop n (first ∷ rest)))) (sym (add-one p.more)) h
front_after known first rest (Ok None) h = h
front_after known first rest (Err e) h = tt

-- a front after a comma
pub comma_front : {E : Type 0} (known : List Named) (comma : Read) (tokens : List Token) (r : Result (Option Argued) E) → comma ≡ punctuation 44
    → IfOk r (λ found. MatchOption found (HasNoFront known (map token tokens)) (λ p. IsFront known (map token tokens) (argument p.argument) (map token (drop (p.more + 1) tokens))))
    → IfOk r (λ found. MatchOption found (HasNoRest known (comma ∷ map token tokens))
    (λ p. (comma ≡ punctuation 44) × IsFront known (map token tokens) (argument p.argument) (map token (drop (p.more + 1) tokens))))
comma_front known comma tokens (Ok (Some p)) e h = (e, h)
comma_front known comma tokens (Ok None) e h = no_argument known comma (map token tokens) h
comma_front known comma tokens (Err x) e h = tt
