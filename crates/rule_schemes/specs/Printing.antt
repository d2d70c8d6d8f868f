-- The printed form of schemes, terms, contexts and judgments: a list of tokens, and its text. To be held against docs/notation.md,
-- 'Printing'. A term is printed as the scheme without names that it is. What is out of range or out of scope is not printed.
use Rattle.std.specs.Prelude.{ℕ, ◌+◌, ◌-◌, max, nat_lt, Bool, true, false, ◌==◌, ◌||◌, ◌&&◌, if◌then◌else◌, List, [], ◌∷◌, ◌++◌, length, map, reverse, take, drop, Option, None, Some, option_map, unwrap_or, slice_get, codes, decimal}
use Rattle.std.specs.List.{list_any}
use Rattle.binding_terms.specs.Tree as terms
use Rattle.binding_terms.specs.Tree.{Tree, Args}
use Rattle.binding_terms.specs.Signature.{Signature, Place, slots, binders, is_empty_form}
use Rattle.binding_terms.specs.declared.grammar.CatId.{CatId}
use Rattle.binding_terms.specs.declared.grammar.Item.{Item}
use Rattle.binding_terms.specs.declared.grammar.Item.TheVariants.{Word, Slot, Binder}
use Rattle.binding_terms.specs.declared.grammar.Prod.{Prod}
use Rattle.scheme_terms.specs.SchemeTree.{SchemeTree, meta, known, local, con, Values, no_values, value, Parts, no_parts, part}
use Rattle.scheme_terms.specs.Forms.{SchemeEntry, SchemeContext, Names, GroundEntry, ContextValue}
use Rattle.scheme_terms.specs.declared.scheme.Root.{Root}
use Rattle.scheme_terms.specs.declared.scheme.Root.TheVariants.{Closed, Empty, Whole}
use Rattle.scheme_terms.specs.declared.scheme.MetaDecl.{MetaDecl}
use Rattle.rule_schemes.specs.Rules.{JudgmentScheme, JudgmentValue, Theory}

-- a bracket after which no blank stands: ( or [
abbrev pub is_opening : List ℕ → Bool
is_opening (c ∷ []) = list_any (λ mark. mark == c) (codes "([")
is_opening _ = false

-- a mark before which no blank stands: ) or ] or [ or , or ; or .
abbrev pub is_closing : List ℕ → Bool
is_closing (c ∷ []) = list_any (λ mark. mark == c) (codes ")][,;.")
is_closing _ = false

-- Tokens one after another, each but the first after a blank, save at the brackets and marks above. The first stands after a
-- blank too where it is not joined to what stands before it.
abbrev pub spaced : (joined : Bool) → List (List ℕ) → List ℕ
spaced joined [] = []
spaced joined (t ∷ ts) = (if joined || is_closing t then [] else codes " ") ++ (t ++ spaced (is_opening t) ts)

abbrev pub text_of : List (List ℕ) → List ℕ
text_of ts = spaced true ts

-- a variable in scope, which is printed as its declared name and a number
pub record Variable : Type 0 where
  pub cat : ℕ
  pub number : ℕ

-- the name that the category declares for its variables
abbrev pub declared_name : Signature → (cat : ℕ) → List ℕ
declared_name sig c = unwrap_or (unwrap_or (option_map (λ cat. cat.var) (slice_get sig.cats c)) None) []

abbrev pub variable_word : Signature → Variable → List ℕ
variable_word sig v = declared_name sig v.cat ++ decimal v.number

-- the greatest number that a variable of the category has in the scope, or 0 where there is none
abbrev pub greatest : (cat : ℕ) → (scope : List Variable) → ℕ
greatest c [] = 0
greatest c (v ∷ vs) = if v.cat == c then max v.number (greatest c vs) else greatest c vs

-- a further variable of the category, numbered one more than the greatest in scope
abbrev pub next_variable : (cat : ℕ) → (scope : List Variable) → Variable
next_variable c vs = record { cat = c; number = greatest c vs + 1 }

-- The binders of a production or an entry as variables: those of one category are numbered in the order of their items, from one
-- more than the greatest number in scope. A scope has the innermost variable first.
abbrev pub numbered : (scope : List Variable) → (binders : List ℕ) → List Variable
numbered vs [] = []
numbered vs (c ∷ cs) = next_variable c vs ∷ numbered (next_variable c vs ∷ vs) cs

-- the binder of that number
abbrev pub binder_at : List Variable → ℕ → Variable
binder_at bs n = unwrap_or (slice_get bs n) (record { cat = 0; number = 0 })

-- the variables that a slot is under, the last that it lists innermost
abbrev pub bound_variables : List Variable → (binds : List ℕ) → List Variable
bound_variables bs binds = map (binder_at bs) (reverse binds)

-- a terminal as its production writes it
abbrev pub terminal : (text : List ℕ) (quoted : Bool) → List ℕ
terminal text quoted = if quoted then codes "\"" ++ (text ++ codes "\"") else text

-- the first of them, or nothing
abbrev pub first : List (List (List ℕ)) → List (List ℕ)
first [] = []
first (x ∷ xs) = x

-- The items in order: the terminals, the words of the binders, and in each slot what stands there.
abbrev pub laid_out : List Item → (words : List (List ℕ)) → (inside : List (List (List ℕ))) → List (List ℕ)
laid_out [] ws xs = []
laid_out (Word text quoted ∷ items) ws xs = terminal text quoted ∷ laid_out items ws xs
laid_out (Slot c binds ∷ items) ws xs = first xs ++ laid_out items ws (drop 1 xs)
laid_out (Binder c ∷ items) ws xs = take 1 ws ++ laid_out items (drop 1 ws) xs

-- in parentheses, unless the production is of one token
abbrev pub grouped : List Item → List (List ℕ) → List (List ℕ)
grouped items ts = if length items == 1 then ts else codes "(" ∷ (ts ++ codes ")" ∷ [])

-- separated by commas
abbrev pub after_commas : List (List (List ℕ)) → List (List ℕ)
after_commas [] = []
after_commas (x ∷ xs) = codes "," ∷ (x ++ after_commas xs)

-- the arguments of a metavariable in brackets, where it has any
abbrev pub bracketed : List (List (List ℕ)) → List (List ℕ)
bracketed [] = []
bracketed (x ∷ xs) = codes "[" ∷ (x ++ (after_commas xs ++ codes "]" ∷ []))

-- as what the names of a scope are printed
pub record Labels : Type 0 where
  pub metas : ℕ → List ℕ
  pub knowns : ℕ → List ℕ

abbrev pub items_of : Signature → (prod : ℕ) → List Item
items_of sig p = unwrap_or (option_map (λ prod. prod.items) (slice_get sig.prods p)) []

abbrev pub local_word : Signature → List Variable → (index : ℕ) → List (List ℕ)
local_word sig vs i = unwrap_or (option_map (λ v. variable_word sig v ∷ []) (slice_get vs i)) []

abbrev mutual
  -- a scheme as an argument or a subterm
  pub argument : Signature → Labels → List Variable → SchemeTree → List (List ℕ)
  argument sig labels vs (meta m ss) = labels.metas m ∷ bracketed (arguments sig labels vs ss)
  argument sig labels vs (known k) = labels.knowns k ∷ []
  argument sig labels vs (local i) = local_word sig vs i
  argument sig labels vs (con p xs) =
      let items = items_of sig p in
      let bs = numbered vs (binders items) in
      grouped items (laid_out items (map (variable_word sig) bs) (subterms sig labels vs bs (slots items) xs))

  pub arguments : Signature → Labels → List Variable → Values → List (List (List ℕ))
  arguments sig labels vs no_values = []
  arguments sig labels vs (value s ss) = argument sig labels vs s ∷ arguments sig labels vs ss

  -- what stands in each slot, under its binders
  pub subterms : Signature → Labels → List Variable → List Variable → List Place → Parts → List (List (List ℕ))
  subterms sig labels vs bs ss no_parts = []
  subterms sig labels vs bs [] (part n t xs) = []
  subterms sig labels vs bs (s ∷ ss) (part n t xs) =
      argument sig labels (bound_variables bs s.binds ++ vs) t ∷ subterms sig labels vs bs ss xs

-- the items of a production with its binders and subterms
abbrev pub production : Signature → Labels → (scope binders : List Variable) → List Item → Parts → List (List ℕ)
production sig labels vs bs items xs = laid_out items (map (variable_word sig) bs) (subterms sig labels vs bs (slots items) xs)

-- the scope with the variables of an entry
abbrev pub with_entry : Signature → List Variable → (prod : ℕ) → List Variable
with_entry sig vs p = reverse (numbered vs (binders (items_of sig p))) ++ vs

abbrev pub with_entries : Signature → List Variable → List SchemeEntry → List Variable
with_entries sig vs [] = vs
with_entries sig vs (e ∷ es) = with_entries sig (with_entry sig vs e.prod) es

-- an entry without the context before it, which is the first item of its production
abbrev pub entry_tokens : Signature → Labels → List Variable → SchemeEntry → List (List ℕ)
entry_tokens sig labels vs e =
    laid_out (drop 1 (items_of sig e.prod)) (map (variable_word sig) (numbered vs (binders (items_of sig e.prod))))
    (map (argument sig labels vs) e.args)

-- entries one after another, each in the scope of those before it
abbrev pub entries_tokens : Signature → Labels → List Variable → List SchemeEntry → List (List ℕ)
entries_tokens sig labels vs [] = []
entries_tokens sig labels vs (e ∷ es) =
    entry_tokens sig labels vs e ++ entries_tokens sig labels (with_entry sig vs e.prod) es

-- the name of a category
abbrev pub category_name : Signature → (cat : ℕ) → List ℕ
category_name sig c = unwrap_or (option_map (λ cat. cat.name) (slice_get sig.cats c)) []

-- the empty form of a category of contexts
abbrev pub empty_form_in : (cat : ℕ) → List Prod → List (List ℕ)
empty_form_in c [] = []
empty_form_in c (p ∷ ps) = if (p.cat.0 == c) && is_empty_form p then laid_out p.items [] [] else empty_form_in c ps

abbrev pub empty_form : Signature → (cat : ℕ) → List (List ℕ)
empty_form sig c = empty_form_in c sig.prods

-- the root of a form: nothing, the empty form, or the category's name
abbrev pub root_tokens : Signature → Root → List (List ℕ)
root_tokens sig Closed = []
root_tokens sig (Empty c) = empty_form sig c.0
root_tokens sig (Whole c) = category_name sig c.0 ∷ []

-- a context, without parentheses
abbrev pub context_tokens : Signature → Labels → SchemeContext → List (List ℕ)
context_tokens sig labels ctx = root_tokens sig ctx.root ++ entries_tokens sig labels [] ctx.entries

-- The slot of the context that the judgment assumes.
abbrev pub is_context_slot : Option CatId → CatId → Bool
is_context_slot None c = false
is_context_slot (Some d) c = d.0 == c.0

-- a judgment by its form: the context in its slot, and the arguments in the others
abbrev pub judgment_form : Option CatId → List Item → (context : List (List ℕ)) → (inside : List (List (List ℕ))) → List (List ℕ)
judgment_form ctx [] ts xs = []
judgment_form ctx (Word text quoted ∷ items) ts xs = terminal text quoted ∷ judgment_form ctx items ts xs
judgment_form ctx (Slot c binds ∷ items) ts xs =
    if is_context_slot ctx c then ts ++ judgment_form ctx items ts xs
    else (first xs ++ judgment_form ctx items ts (drop 1 xs))
judgment_form ctx (Binder c ∷ items) ts xs = judgment_form ctx items ts xs

-- the judgment of that number, where the context is printed so and adds these variables
abbrev pub judgment_over : Theory → Labels → (judgment : ℕ) → (context : List (List ℕ)) → List Variable → List SchemeTree → List (List ℕ)
judgment_over th labels n ts vs args =
    unwrap_or
    (option_map (λ form. judgment_form form.ctx form.items ts (map (argument th.sig labels vs) args)) (slice_get th.judgments n))
    []

abbrev pub judgment_tokens : Theory → Labels → JudgmentScheme → List (List ℕ)
judgment_tokens th labels j =
    judgment_over th labels j.judgment (context_tokens th.sig labels j.context) (with_entries th.sig [] j.context.entries) j.args

-- The names of a scope as they are written.
abbrev pub meta_name : List MetaDecl → ℕ → List ℕ
meta_name ms m = unwrap_or (option_map (λ decl. decl.name) (slice_get ms m)) []

abbrev pub labels_of : Names → Labels
labels_of names =
    record {
      metas = meta_name names.metas;
      knowns = λ k. unwrap_or (option_map (λ decl. decl.name) (slice_get names.knowns k)) [];
    }

-- The names of a scope and of a choice: a metavariable of the choice's rule with ? before its name, a later one as ? and its place
-- among these, from 1, and the variable that is known by the choice as ? and its declared name.
abbrev pub choice_labels : Signature → Names → (choice : List MetaDecl) → (known : Option ℕ) → Labels
choice_labels sig names choice prod =
    record {
      metas =
          λ m. if nat_lt m (length names.metas) then meta_name names.metas m
          else (codes "?" ++ (if nat_lt (m - length names.metas) (length choice) then meta_name choice (m - length names.metas)
          else decimal (m - length names.metas - length choice + 1)));
      knowns =
          λ k. if nat_lt k (length names.knowns) then (labels_of names).knowns k
          else (codes "?" ++ declared_name sig (unwrap_or (slice_get (binders (items_of sig (unwrap_or prod 0))) 0) 0));
    }

-- Terms and what is made of them.

-- no names
abbrev pub no_labels : Labels
no_labels = record { metas = λ m. []; knowns = λ k. [] }

abbrev mutual
  pub plain : Tree → SchemeTree
  plain (terms.var i) = local i
  plain (terms.con p xs) = con p (plain_parts xs)

  pub plain_parts : Args → Parts
  plain_parts terms.no_args = no_parts
  plain_parts (terms.arg n t xs) = part n (plain t) (plain_parts xs)

abbrev pub plain_entry : GroundEntry → SchemeEntry
plain_entry e = record { prod = e.prod; args = map plain e.args }

-- a term as an argument
abbrev pub term_tokens : Signature → List Variable → Tree → List (List ℕ)
term_tokens sig vs t = argument sig no_labels vs (plain t)

-- the variables of a context value, and the value written in full
abbrev pub value_variables : Signature → ContextValue → List Variable
value_variables sig v = with_entries sig [] (map plain_entry v.entries)

abbrev pub value_tokens : Signature → ContextValue → List (List ℕ)
value_tokens sig v =
    unwrap_or (option_map (empty_form sig) v.cat) [] ++ entries_tokens sig no_labels [] (map plain_entry v.entries)

-- a judgment over a context value, where the value is printed so
abbrev pub value_judgment : Theory → (context : ContextValue → List (List ℕ)) → JudgmentValue → List (List ℕ)
value_judgment th printed j =
    judgment_over th no_labels j.judgment (printed j.context) (value_variables th.sig j.context) (map plain j.args)

-- a judgment whose context is written in full
abbrev pub judgment_value_tokens : Theory → JudgmentValue → List (List ℕ)
judgment_value_tokens th j = value_judgment th (value_tokens th.sig) j
