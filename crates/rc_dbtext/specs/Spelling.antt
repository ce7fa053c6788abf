-- The text of a database: names in place of ids, and its bytes.
use Rattle.std.specs.Prelude.{ℕ, suc, Bool, true, false, List, [], ◌∷◌, map, unwrap_or}
use Rattle.std.specs.Prelude.{slice_index_or}
use Rattle.std.specs.Option.{option_map}
use Rattle.rc_model.specs.declared.Kind.{Kind}
use Rattle.rc_model.specs.declared.Kind.TheVariants as kinds
use Rattle.rc_model.specs.Database.{Service, Database}
use Rattle.rc_dbtext.specs.Text.{Head, Body, OfLongrun, OfOneshot, ServiceText, BundleText}
use Rattle.rc_dbtext.specs.Text.{DbText}
use Rattle.rc_dbtext.specs.Text.{db_text}

-- the members of a set, ascending
abbrev pub members : List Bool → List ℕ
members [] = []
members (true ∷ rest) = 0 ∷ map suc (members rest)
members (false ∷ rest) = map suc (members rest)

-- the name of a service
abbrev pub name_at : List (List ℕ) → ℕ → List ℕ
name_at names s = slice_index_or names s []

-- what the text gives after the needs of a service of this kind
abbrev pub body_of : List (List ℕ) → Kind → Service → Body
body_of names kinds.Oneshot s = OfOneshot (unwrap_or s.text_up []) s.text_down
body_of names kinds.Longrun s = OfLongrun (option_map (name_at names) s.producer_for)
body_of names kinds.Bundle s = OfLongrun (option_map (name_at names) s.producer_for)

-- what the text gives on the first line of a service
abbrev pub head_of : List ℕ → Service → Head
head_of name s = record {
  name = name;
  kind = s.kind;
  essential = s.essential;
  limit_up = s.limit_up;
  limit_down = s.limit_down;
}

-- a service by its name and by the names of those that it needs and feeds
abbrev pub service_text : List (List ℕ) → List ℕ → Service → List ℕ → ServiceText
service_text names name s needs = record {
  head = head_of name s;
  needs = map (name_at names) needs;
  body = body_of names s.kind s;
}

-- services one by one, each with its name and what it needs
abbrev pub service_texts : List (List ℕ) → List (List ℕ) → List Service → List (List ℕ) →
    List ServiceText
service_texts names [] services lists = []
service_texts names (name ∷ more) [] lists = []
service_texts names (name ∷ more) (s ∷ services) [] = []
service_texts names (name ∷ more) (s ∷ services) (needs ∷ lists) =
    service_text names name s needs ∷ service_texts names more services lists

-- a bundle by its name and the names of its members
abbrev pub bundle_text : List (List ℕ) → List ℕ × List Bool → BundleText
bundle_text names bundle =
    record { name = bundle.0; members = map (name_at names) (members bundle.1) }

-- a database as its text gives it: names in place of services
abbrev pub text_of : Database → DbText
text_of d = record {
  services = service_texts d.names d.names d.services d.needs;
  bundles = map (bundle_text d.names) d.table;
}

-- the text of a database
unfoldable pub spelling : Database → List ℕ
spelling d = db_text (text_of d)
