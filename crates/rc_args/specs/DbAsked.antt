-- What the words ask of `db`.
use Rattle.std.specs.Prelude.{◌≡◌, ◌∷◌, ℕ, List, [], Option, Some, codes, option_map}
use Rattle.std.specs.Prelude.{if◌then◌else◌}
use Rattle.std.specs.Option.{option_map_or}
use Rattle.clap.specs.Words.{Row, Text, first_of}
use Rattle.rc_graph.specs.declared.Way.{Way}
use Rattle.rc_graph.specs.declared.Way.TheVariants.{Raise, Lower}
use Rattle.rc_args.specs.Limits.{IsGenerationIn}
use Rattle.rc_args.specs.Query.{Question, question_of, words_of_query}
use Rattle.rc_args.specs.declared.db_words.DbRequest.{DbRequest}
use Rattle.rc_args.specs.Words.{is_on, rows_for, words_in}

-- a question, the way that it is asked for, the file of a session that has the database or is to
-- be shown, and the generation of it that is asked
pub record DbAsk : Type 0 where
  pub question : Question
  pub way : Way
  pub live : Option Text
  pub generation : Option ℕ

-- what a request of the program asks
abbrev pub db_ask_of : DbRequest → DbAsk
db_ask_of request = record {
  question = question_of request.query;
  way = request.way;
  live = option_map (λ f. f.now) request.live;
  generation = request.generation;
}

-- the way of the flag `-d`
abbrev pub way_of : List Row → Way
way_of rows = if is_on (codes "down") rows then Lower else Raise

-- the query's word and the words after it
abbrev pub query_words : List Row → List Text
query_words rows = option_map_or (λ word. word ∷ words_in rows) (first_of (codes "query") rows) []

-- a question and a generation, with the way and the file of the matches
abbrev pub ask_by : List Row → Question → Option ℕ → DbAsk
ask_by rows question generation = record {
  question = question;
  way = way_of rows;
  live = first_of (codes "live") rows;
  generation = generation;
}

-- the matches name this generation, or none: a number, where they name the file of a session
abbrev pub HasGeneration : List Row → Option ℕ → Type 0
HasGeneration rows =
    IsGenerationIn (first_of (codes "generation") rows) (first_of (codes "live") rows)

-- the matches of `db` are those of the words of a question, of its way, of the file of a session,
-- and of a generation, which only such a file has
abbrev pub AsksIn : List Row → DbAsk → Type 0
AsksIn rows ask = (query_words rows ≡ words_of_query ask.question)
    × (ask ≡ ask_by rows ask.question ask.generation) × HasGeneration rows ask.generation

-- the words ask this of `db`
abbrev pub AsksDb : List Text → DbAsk → Type 0
AsksDb words ask = (rows : List Row) × (rows_for (codes "db") words ≡ Some rows) × AsksIn rows ask

-- the words ask something of `db`
abbrev pub AsksSomething : List Text → Type 0
AsksSomething words = (ask : DbAsk) × AsksDb words ask

-- the words ask nothing of `db`
abbrev pub AsksNothing : List Text → Type 0
AsksNothing words = (ask : DbAsk) → AsksDb words ask → ⊥
