-- What the words ask of `db`, by the matches that `clap` makes of them.
use Rattle.std.proofs.Common.{◌≡◌, ◌∙◌, ◌<◌, ℕ, Bor, List, [], ◌∷◌, Option, None, Some, IfNone}
use Rattle.std.proofs.Common.{IfErr, IfOk, IfSome, Result, ap, arith, length, map, refl, sym}
use Rattle.std.proofs.Common.{subst, codes}
use Rattle.std.specs.Option.{option_map_or}
use Rattle.clap.specs.Words.{Row, Text, first_of}
use Rattle.rc_args.specs.DbAsked.{AsksIn, AsksNothing, DbAsk, HasGeneration, ask_by, query_words}
use Rattle.rc_args.specs.Limits.{IsGenerationIn}
use Rattle.rc_args.specs.Query.{Check, Dot, ListOf, OfName, OfNames, Question, question_of}
use Rattle.rc_args.specs.Query.{words_of_query}
use Rattle.rc_args.specs.declared.db_words.Query.{Query}
use Rattle.rc_args.specs.Words.{rows_for, words_in}

-- words without matches of `db` ask nothing
pub asked_none : (words : List Text) → rows_for (codes "db") words ≡ None → AsksNothing words
asked_none words none ask asks = let both : Some asks.0 ≡ None = sym asks.1 ∙ none in cc

-- a question has a word
spelled_some : (question : Question) → [] ≡ words_of_query question → ⊥
spelled_some Check e = cc
spelled_some Dot e = cc
spelled_some (ListOf which) e = cc
spelled_some (OfName query name) e = cc
spelled_some (OfNames query names) e = cc

-- matches without a query's word ask nothing
pub no_query : (rows : List Row) (ask : DbAsk) → None ≡ first_of (codes "query") rows
    → AsksIn rows ask → ⊥
no_query rows ask none asks =
    spelled_some ask.question
    (ap (λ o. option_map_or (λ word. word ∷ words_in rows) o []) none ∙ asks.0)

-- the words of the query, by its first
pub query_by : (rows : List Row) (word : Text) → Some word ≡ first_of (codes "query") rows
    → query_words rows ≡ word ∷ words_in rows
query_by rows word is = sym (ap (λ o. option_map_or (λ w. w ∷ words_in rows) o []) is)

-- the same of the words after the first
pub some_along : (word : Text) (given words : List Text) (found : Option Query) → given ≡ words
    → IfSome found (λ query. word ∷ given ≡ words_of_query (question_of query))
    → IfSome found (λ query. word ∷ words ≡ words_of_query (question_of query))
some_along word given words found same =
    subst (λ (ws : List Text). IfSome found
    (λ query. word ∷ ws ≡ words_of_query (question_of query))) same

pub none_along : (word : Text) (given words : List Text) (found : Option Query) → given ≡ words
    → IfNone found ((question : Question) → word ∷ given ≡ words_of_query question → ⊥)
    → IfNone found ((question : Question) → word ∷ words ≡ words_of_query question → ⊥)
none_along word given words found same =
    subst (λ (ws : List Text). IfNone found ((question : Question)
    → word ∷ ws ≡ words_of_query question → ⊥)) same

-- a word, and none after it
pub alone : (word text : Text) (words : List (Bor Text)) → length words < 1 → word ≡ text
    → word ∷ map (λ w. w.now) words ≡ text ∷ []
alone word text [] few is = ap (λ w. w ∷ []) is
alone word text (w ∷ words) few is = absurd (omega arith)

-- what is asked by matches, with the words of its question and a generation that they name
pub with_options : (rows : List Row) (question : Question) (generation : Option ℕ) (given : DbAsk)
    → given ≡ ask_by rows question generation → query_words rows ≡ words_of_query question
    → HasGeneration rows generation → AsksIn rows given
with_options rows question generation given is words named =
    subst (AsksIn rows) (sym is) (words, refl, named)

-- where no generation is one that the matches name, they ask nothing
pub no_generation : (rows : List Row)
    → ((generation : Option ℕ) → HasGeneration rows generation → ⊥) → (ask : DbAsk)
    → AsksIn rows ask → ⊥
no_generation rows never ask asks = never ask.generation asks.2

-- what says of texts that they name a generation says it of the same texts
pub named_as : {E : Type 0} (result : Result (Option ℕ) E) (given live got held : Option Text)
    → given ≡ got → live ≡ held → IfOk result (IsGenerationIn given live)
    → IfOk result (IsGenerationIn got held)
named_as result given live got held same alike named =
    subst (λ (file : Option Text). IfOk result (IsGenerationIn got file)) alike
    (subst (λ (text : Option Text). IfOk result (IsGenerationIn text live)) same named)

pub unnamed_as : {E : Type 0} (result : Result (Option ℕ) E) (given live got held : Option Text)
    → given ≡ got → live ≡ held
    → IfErr result (λ fault. (generation : Option ℕ) → IsGenerationIn given live generation → ⊥)
    → IfErr result (λ fault. (generation : Option ℕ) → IsGenerationIn got held generation → ⊥)
unnamed_as result given live got held same alike never =
    subst (λ (file : Option Text). IfErr result (λ fault. (generation : Option ℕ)
    → IsGenerationIn got file generation → ⊥)) alike
    (subst (λ (text : Option Text). IfErr result (λ fault. (generation : Option ℕ)
    → IsGenerationIn text live generation → ⊥)) same never)
