-- What an entry means, from what its files say.
use Rattle.std.proofs.Common.{◌≡◌, ⊎_elim, inl, inr, ℕ, ◌++◌, false, List, [], All, Contains}
use Rattle.std.proofs.Common.{Option, Some, None, refl, sym, subst, ◌∙◌, codes, true≢false, arith}
use Rattle.std.specs.Option.{IfSome, option_map}
use Rattle.std.specs.Bool.{IsTrue}
use Rattle.std.proofs.lemmas.List.Elements.{All-nil}
use Rattle.rc_model.specs.declared.Kind.{Kind}
use Rattle.rc_model.specs.declared.Kind.TheVariants.{Oneshot, Longrun, Bundle}
use Rattle.rc_model.specs.Names.{IsName}
use Rattle.rc_model.proofs.Members.{none_contained}
use Rattle.rc_source.specs.declared.entry.Service.{Service}
use Rattle.rc_source.specs.Tree.{Source, file_at}
use Rattle.rc_source.specs.Texts.{IsScriptText}
use Rattle.rc_source.specs.Kinds.{kind_of, is_file_of}
use Rattle.rc_source.specs.Meaning.{Meaning, ListsNames, Means, IsMeaning, IsGiven, given_in}
use Rattle.rc_source.specs.Meaning.{bytes_that_count}
use Rattle.rc_source.specs.Said.{IsNamedIn, SayService, IsSaid}

-- what services say, with their kind and texts
abbrev pub meaning_with : List ℕ → Kind → Option (List ℕ) → Option (List ℕ) → Service → Meaning
meaning_with name kind up down service = record {
  name = name;
  kind = kind;
  limit_up = service.limits.up;
  limit_down = service.limits.down;
  essential = service.essential;
  up = up;
  down = down;
  producer_for = service.pipes.producer_for;
  pipeline_name = service.pipes.pipeline_name;
  dependencies = service.dependencies.items;
  consumer_for = service.pipes.consumer_for.items;
  contents = [];
}

-- what bundles say
abbrev pub bundle_with : List ℕ → List (List ℕ) → Meaning
bundle_with name contents = record {
  name = name;
  kind = Bundle;
  limit_up = 0;
  limit_down = 0;
  essential = false;
  up = None;
  down = None;
  producer_for = None;
  pipeline_name = None;
  dependencies = [];
  consumer_for = [];
  contents = contents;
}

-- a text that may be a service's, as it is seen
pub shown_script : {X : Type 0} (bytes : X → List ℕ) (o : Option X)
    → IfSome o (λ t. IsScriptText (bytes t)) → IfSome (option_map bytes o) IsScriptText
shown_script bytes None h = tt
shown_script bytes (Some t) h = h

-- no names are listed where none is given
lists_none : (P : List ℕ → Type 0) → ((name : List ℕ) → P name → ⊥) → ListsNames P []
lists_none P none = record {
  order = λ i j d before within. absurd (omega arith);
  same = λ name. (λ there. absurd (none_contained name there), λ p. absurd (none name p));
}

module _ (source : Source) (entry : List ℕ) (kind : Kind) (file : List ℕ) where
  -- the names of a file and a folder that count for the kind
  lists_given : (names : List (List ℕ))
      → bytes_that_count source entry kind file ≡ file_at source entry file
      → IsTrue (is_file_of kind (file ++ codes ".d"))
      → ListsNames (IsNamedIn source entry file (file ++ codes ".d")) names
      → ListsNames (IsGiven source entry kind file) names
  lists_given names here folder lists = record {
    order = lists.order;
    same = λ name. (
      λ there. ⊎_elim (λ line. inl (subst (λ o. Contains (given_in o) name) (sym here) line))
          (λ beside. inr (folder, beside.0, beside.1)) ((lists.same name).0 there),
      λ given. (lists.same name).1
          (⊎_elim (λ line. inl (subst (λ o. Contains (given_in o) name) here line))
          (λ beside. inr (beside.1, beside.2)) given),
    );
  }

  -- and those that count for another kind
  gives_none : bytes_that_count source entry kind file ≡ None
      → is_file_of kind (file ++ codes ".d") ≡ false
      → ListsNames (IsGiven source entry kind file) []
  gives_none here folder = lists_none (IsGiven source entry kind file) (λ name given. ⊎_elim
      (λ line. none_contained name (subst (λ o. Contains (given_in o) name) here line))
      (λ beside. true≢false (sym beside.0 ∙ folder)) given)

pub oneshot_means : (source : Source) (entry up : List ℕ) (down : Option (List ℕ))
    (service : Service) → kind_of source entry ≡ Some Oneshot
    → file_at source entry (codes "up") ≡ Some up → file_at source entry (codes "down") ≡ down
    → SayService source entry service
    → Means source entry (meaning_with entry Oneshot (Some up) down service)
oneshot_means source entry up down service kind up_is down_is says = record {
  name = refl;
  kind = kind;
  limit_up = says.limits.up;
  limit_down = says.limits.down;
  essential = says.essential;
  up = sym up_is;
  down = sym down_is;
  producer_for = says.pipes.producer_for;
  pipeline_name = says.pipes.pipeline_name;
  dependencies =
      lists_given source entry Oneshot (codes "dependencies") service.dependencies.items refl refl
      says.dependencies;
  consumer_for = says.pipes.consumer_for;
  contents = gives_none source entry Oneshot (codes "contents") refl refl;
}

pub longrun_means : (source : Source) (entry : List ℕ) (service : Service)
    → kind_of source entry ≡ Some Longrun → SayService source entry service
    → Means source entry (meaning_with entry Longrun None None service)
longrun_means source entry service kind says = record {
  name = refl;
  kind = kind;
  limit_up = says.limits.up;
  limit_down = says.limits.down;
  essential = says.essential;
  up = refl;
  down = refl;
  producer_for = says.pipes.producer_for;
  pipeline_name = says.pipes.pipeline_name;
  dependencies =
      lists_given source entry Longrun (codes "dependencies") service.dependencies.items refl refl
      says.dependencies;
  consumer_for = says.pipes.consumer_for;
  contents = gives_none source entry Longrun (codes "contents") refl refl;
}

pub bundle_means : (source : Source) (entry : List ℕ) (contents : List (List ℕ))
    → kind_of source entry ≡ Some Bundle
    → ListsNames (IsNamedIn source entry (codes "contents") (codes "contents.d")) contents
    → Means source entry (bundle_with entry contents)
bundle_means source entry contents kind lists = record {
  name = refl;
  kind = kind;
  limit_up = refl;
  limit_down = refl;
  essential = refl;
  up = refl;
  down = refl;
  producer_for = refl;
  pipeline_name = refl;
  dependencies = gives_none source entry Bundle (codes "dependencies") refl refl;
  consumer_for = lists_none (Contains []) (λ name there. none_contained name there);
  contents = lists_given source entry Bundle (codes "contents") contents refl refl lists;
}

-- what the files of a oneshot can say
pub oneshot_is_meaning : (entry up : List ℕ) (down : Option (List ℕ)) (service : Service)
    → IsName entry → IsScriptText up → IfSome down IsScriptText → IsSaid service
    → IsMeaning (meaning_with entry Oneshot (Some up) down service)
oneshot_is_meaning entry up down service name up_text down_text said = record {
  name = name;
  limits = (said.limits.up, said.limits.down);
  up = up_text;
  down = down_text;
  fed = said.pipes.producer_for;
  pipeline = said.pipes.pipeline_name;
  dependencies = said.dependencies;
  consumers = said.pipes.consumer_for;
  contents = All-nil IsName;
  oneshot = λ _. refl;
  others = λ other. absurd (other refl);
  atomic = λ _. refl;
  bundle = λ is. absurd cc;
}

-- and those of a longrun
pub longrun_is_meaning : (entry : List ℕ) (service : Service) → IsName entry → IsSaid service
    → IsMeaning (meaning_with entry Longrun None None service)
longrun_is_meaning entry service name said = record {
  name = name;
  limits = (said.limits.up, said.limits.down);
  up = tt;
  down = tt;
  fed = said.pipes.producer_for;
  pipeline = said.pipes.pipeline_name;
  dependencies = said.dependencies;
  consumers = said.pipes.consumer_for;
  contents = All-nil IsName;
  oneshot = λ is. absurd cc;
  others = λ _. (refl, refl);
  atomic = λ _. refl;
  bundle = λ is. absurd cc;
}

-- and those of a bundle
pub bundle_is_meaning : (entry : List ℕ) (contents : List (List ℕ)) → IsName entry
    → All IsName contents → IsMeaning (bundle_with entry contents)
bundle_is_meaning entry contents name each = record {
  name = name;
  limits = (omega arith, omega arith);
  up = tt;
  down = tt;
  fed = tt;
  pipeline = tt;
  dependencies = All-nil IsName;
  consumers = All-nil IsName;
  contents = each;
  oneshot = λ is. absurd cc;
  others = λ _. (refl, refl);
  atomic = λ not. absurd (not refl);
  bundle = λ _. (refl, refl, refl, refl, refl, refl, refl);
}
