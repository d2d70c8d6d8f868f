-- The grammar of a production: for which items its tokens stand. To be held against 'Grammar' of docs/notation.md. A kind is 0 a word,
-- 1 a symbol, 2 punctuation, 3 a bar, 4 quoted; of punctuation 40 and 41 are parentheses, 91 and 93 brackets, 44 is the comma.
use Rattle.std.specs.Prelude.{◌≡◌, ◌≢◌, ◌⊎◌, ◌==◌, ℕ, IsTrue, List, [], ◌∷◌, Some, slice_get}
use Rattle.sy_base.specs.Tokens.{PlainToken, is_numeral}
use Rattle.binding_terms.specs.declared.grammar.Cat.{Cat}
use Rattle.binding_terms.specs.declared.grammar.CatId.{CatId}
use Rattle.binding_terms.specs.declared.grammar.Item.{Item}
use Rattle.binding_terms.specs.declared.grammar.Item.TheVariants.{Word, Slot, Binder}
use Rattle.binding_terms.specs.declared.grammar.Prod.{Prod}
use Rattle.rule_schemes.specs.Reading.{IsVariableWord, MayBeTerminal, IsCategoryWord}
use Rattle.user_grammar.specs.Names.{IsAmong, names, IsNoSpelling, AllDiffer}

-- A token that may be a terminal of a production: of the words only the listed ones and numerals. Parentheses are none, not even in
-- quotes. Of reserved words nothing is said, since none stands in a production outside quotes.
pub record IsTerminal (listed : List (List ℕ)) (token : PlainToken) : Type 0 where
  pub may_be : MayBeTerminal token.kind token.text
  pub word : token.kind ≡ 0 → IsAmong listed token.text ⊎ IsTrue (is_numeral token.text)
  pub not_open : token.text ≢ 40 ∷ []
  pub not_close : token.text ≢ 41 ∷ []

-- punctuation with this code
abbrev pub IsMark : ℕ → PlainToken → Type 0
IsMark code token = (token.kind ≡ 2) × (token.text ≡ code ∷ [])

-- Brackets with words in them, in any number of pairs, and the tokens behind them.
mutual
  pub data AreBrackets : (words : List (List ℕ)) (tokens rest : List PlainToken) → Type 0 where
    no_brackets : {rest : List PlainToken} → AreBrackets [] rest rest
    brackets : {words : List (List ℕ)} {opening : PlainToken} {tokens rest : List PlainToken} →
        IsMark 91 opening → AreWords words tokens rest → AreBrackets words (opening ∷ tokens) rest

  -- the words from one on, after a bracket or a comma
  pub data AreWords : (words : List (List ℕ)) (tokens rest : List PlainToken) → Type 0 where
    one_more : {words : List (List ℕ)} {token comma : PlainToken} {tokens rest : List PlainToken} →
        token.kind ≡ 0 → IsMark 44 comma → AreWords words tokens rest → AreWords (token.text ∷ words) (token ∷ comma ∷ tokens) rest
    last_one : {words : List (List ℕ)} {token closing : PlainToken} {tokens rest : List PlainToken} →
        token.kind ≡ 0 → IsMark 93 closing → AreBrackets words tokens rest → AreWords (token.text ∷ words) (token ∷ closing ∷ tokens) rest

-- the numbers that these words have among the words of the binders
abbrev pub AreNumbers : (own words : List (List ℕ)) → List ℕ → Type 0
AreNumbers own [] [] = Unit {0}
AreNumbers own (word ∷ words) (n ∷ ns) = (slice_get own n ≡ Some word) × AreNumbers own words ns
AreNumbers own _ _ = ⊥

-- Tokens and the items for which they stand, and the words of these items that are binders. `own` are the words of all binders of the
-- production. A word that is a spelling is no terminal; it is no numeral and not listed either, where the names are as they should be.
pub data AreItems (cats : List Cat) (listed own : List (List ℕ)) : List PlainToken → List Item → (words : List (List ℕ)) → Type 0 where
  no_items : AreItems cats listed own [] [] []
  terminal : {token : PlainToken} {tokens : List PlainToken} {items : List Item} {words : List (List ℕ)} →
      IsTerminal listed token → (token.kind ≡ 0 → IsNoSpelling (names cats) token.text) → AreItems cats listed own tokens items words →
      AreItems cats listed own (token ∷ tokens) (Word token.text (token.kind == 4) ∷ items) words
  binder : {token : PlainToken} {tokens : List PlainToken} {c : CatId} {items : List Item} {words : List (List ℕ)} →
      token.kind ≡ 0 → IsVariableWord (record { cats = cats; prods = [] }) c.0 token.text → AreItems cats listed own tokens items words →
      AreItems cats listed own (token ∷ tokens) (Binder c ∷ items) (token.text ∷ words)
  slot : {token : PlainToken} {tokens rest : List PlainToken} {c : CatId} {bound : List (List ℕ)} {binds : List ℕ} {items : List Item} {words : List (List ℕ)} →
      token.kind ≡ 0 → IsCategoryWord cats c.0 token.text → AreBrackets bound tokens rest → AreNumbers own bound binds →
      AreItems cats listed own rest items words → AreItems cats listed own (token ∷ tokens) (Slot c binds ∷ items) words

-- the production of a category for which a form stands, no two of whose binders have one word
pub record IsProduction (cats : List Cat) (listed : List (List ℕ)) (c : ℕ) (form : List PlainToken) (prod : Prod) : Type 0 where
  pub words : List (List ℕ)
  pub cat : prod.cat.0 ≡ c
  pub items : AreItems cats listed words form prod.items words
  pub different : AllDiffer words

-- a word alone that is no terminal and no category: it is a variable
abbrev pub IsVariable : (categories listed : List (List ℕ)) → List PlainToken → Type 0
IsVariable categories listed (token ∷ []) =
    (token.kind ≡ 0) × (IsTrue (is_numeral token.text) → ⊥) × (IsAmong listed token.text → ⊥) × IsNoSpelling categories token.text
IsVariable categories listed _ = ⊥
