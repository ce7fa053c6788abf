-- The words of the queries of `db` that names follow.
use Rattle.std.specs.Prelude.{codes}
use Rattle.clap.specs.Words.{Text}
use Rattle.rc_args.specs.declared.cmdline.query_words.NameQuery.{NameQuery}
use Rattle.rc_args.specs.declared.cmdline.query_words.NameQuery.TheVariants as of_name
use Rattle.rc_args.specs.declared.cmdline.query_words.NamesQuery.{NamesQuery}
use Rattle.rc_args.specs.declared.cmdline.query_words.NamesQuery.TheVariants as of_names

-- the word of a query of one name
abbrev pub name_word : NameQuery → Text
name_word of_name.Kind = codes "type"
name_word of_name.Limit = codes "timeout"
name_word of_name.Flags = codes "flags"
name_word of_name.Contents = codes "contents"
name_word of_name.Pipeline = codes "pipeline"
name_word of_name.Script = codes "script"

-- the word of a query of any number of names
abbrev pub names_word : NamesQuery → Text
names_word of_names.Atomics = codes "atomics"
names_word of_names.Dependencies = codes "dependencies"
names_word of_names.AllDependencies = codes "all-dependencies"
