-- What may be asked of a database, and the words that ask it.
use Rattle.std.specs.Prelude.{List, [], ◌∷◌, codes, map, string_bytes}
use Rattle.clap.specs.Words.{Text}
use Rattle.rc_db.specs.declared.which.Which.{Which}
use Rattle.rc_db.specs.declared.which.Which.TheVariants as which
use Rattle.rc_args.specs.declared.db_words.Query.{Query}
use Rattle.rc_args.specs.declared.db_words.Query.TheVariants as query
use Rattle.rc_args.specs.QueryWords.{name_word, names_word}
use Rattle.rc_args.specs.declared.cmdline.query_words.NameQuery.{NameQuery}
use Rattle.rc_args.specs.declared.cmdline.query_words.NamesQuery.{NamesQuery}

-- what is asked of a database: whether it is one, its picture, a list of names, or something of
-- one name or of any number of them
pub data Question : Type 0 where
  Check : Question
  Dot : Question
  ListOf : Which → Question
  OfName : NameQuery → Text → Question
  OfNames : NamesQuery → List Text → Question

-- the word of a list
abbrev pub list_word : Which → Text
list_word which.All = codes "all"
list_word which.Services = codes "services"
list_word which.Oneshots = codes "oneshots"
list_word which.Longruns = codes "longruns"
list_word which.Bundles = codes "bundles"

-- the words of a question: the query's own, and those after it
abbrev pub words_of_query : Question → List Text
words_of_query Check = codes "check" ∷ []
words_of_query Dot = codes "dot" ∷ []
words_of_query (ListOf which) = codes "list" ∷ list_word which ∷ []
words_of_query (OfName query name) = name_word query ∷ name ∷ []
words_of_query (OfNames query names) = names_word query ∷ names

-- the names that a question is of
abbrev pub names_in : Question → List Text
names_in Check = []
names_in Dot = []
names_in (ListOf which) = []
names_in (OfName query name) = name ∷ []
names_in (OfNames query names) = names

-- the question of a query of the program
abbrev pub question_of : Query → Question
question_of query.Check = Check
question_of query.Dot = Dot
question_of (query.List which) = ListOf which
question_of (query.OfName query name) = OfName query name.now
question_of (query.OfNames query names) = OfNames query (map string_bytes names.items)
