-- What the words ask of a session of one line, by the matches that `clap` makes of them.
use Rattle.std.proofs.Common.{◌≡◌, ◌∙◌, ◌∷◌, ℕ, Bool, List, [], Option, None, Some, false}
use Rattle.std.proofs.Common.{option_map, ap, refl, sym, unwrap_or, codes}
use Rattle.std.specs.Str.{bytes_eq}
use Rattle.clap.specs.Matches.{first_value, found_of}
use Rattle.clap.specs.Words.{Row, Text, first_of, rows_of}
use Rattle.clap.specs.declared.ArgMatches.{ArgMatches}
use Rattle.rc_model.specs.declared.Mode.{Mode}
use Rattle.rc_model.specs.Plan.{Ask}
use Rattle.rc_model.specs.Session.{Add, Change, Delete, Redo, Undo}
use Rattle.rc_script.specs.Says.{SaysBundles, SaysDry, SaysJournal, SaysLive, SaysNothing, SaysStep}
use Rattle.rc_script.specs.Says.{SaysWrong}
use Rattle.rc_args.specs.Words.{is_on, words_in}
use Rattle.rc_select.specs.Ask.{asked_with, chosen_in, mode_of}
use Rattle.rc_args.specs.Asked.{ask_with, is_on_with}
use Rattle.rc_args.specs.Limits.{IsRunLimitIn}
use Rattle.rc_args.specs.OnceAsked.{Adds, AsksWhat, OnceSaying, Said, WantsDown, WantsDryRedo}
use Rattle.rc_args.specs.OnceAsked.{WantsDryRestart, WantsDryUndo, once_command}
use Rattle.rc_args.proofs.SessionWordsLemmas.{found_as, found_back}
use Rattle.rc_args.proofs.InvocationLemmas.{apart}

-- what flags ask has no limit
unlimited_by : (on : List ℕ → Bool) (words : List (List ℕ)) (mode : Option Mode) (ask : Ask)
    → option_map (asked_with (chosen_in on) words) mode ≡ Some ask → ask.limit ≡ 0
unlimited_by on words None ask is = cc
unlimited_by on words (Some mode) ask is =
    sym (ap (λ (o : Option Ask). (unwrap_or o ask).limit) is)

pub unlimited : (flag : Text) (rows : List Row) (ask : Ask) → ask_with flag rows ≡ Some ask
    → ask_with flag rows ≡ Some (record ask { limit = 0 })
unlimited flag rows ask is =
    let on : List ℕ → Bool = is_on_with flag rows in
    let zero = unlimited_by on (words_in rows) (mode_of (chosen_in on)) ask is in
    is ∙ ap (λ (l : ℕ). Some (record ask { limit = l })) zero

-- the limit in the matches, by the text that is found in them
abbrev says_limit : ℕ → Option Text → Type 0
says_limit limit given = IsRunLimitIn given limit

pub limit_found : (m : ArgMatches) (given : Option Text) (limit : ℕ)
    → given ≡ first_value (found_of m) (codes "limit")
    → IsRunLimitIn given limit → IsRunLimitIn (first_of (codes "limit") (rows_of (found_of m)))
    limit
limit_found m given limit is says = found_as (says_limit limit) m (codes "limit") given is says

limit_back : (m : ArgMatches) (given : Option Text) (limit : ℕ)
    → given ≡ first_value (found_of m) (codes "limit")
    → IsRunLimitIn (first_of (codes "limit") (rows_of (found_of m))) limit
    → IsRunLimitIn given limit
limit_back m given limit is says = found_back (says_limit limit) m (codes "limit") given is says

-- matches whose limit is none ask no change, no undo and no redo
pub limit_none : (name flag : Text) (m : ArgMatches) (given : Option Text)
    → bytes_eq name (codes "add") ≡ false → bytes_eq name (codes "delete") ≡ false
    → bytes_eq name (codes "live") ≡ false → bytes_eq name (codes "bundles") ≡ false
    → bytes_eq name (codes "journal") ≡ false → bytes_eq name (codes "restart") ≡ false
    → given ≡ first_value (found_of m) (codes "limit")
    → ((limit : ℕ) → IsRunLimitIn given limit → ⊥)
    → (what : OnceSaying) → AsksWhat name flag (rows_of (found_of m)) what → ⊥
limit_none name flag m given add delete live bundles journal restart is none
    (Said SaysNothing) asks =
    asks.1
limit_none name flag m given add delete live bundles journal restart is none (Said SaysWrong) asks =
    asks.1
limit_none name flag m given add delete live bundles journal restart is none
    (Said (SaysStep (Change ask events))) asks =
    none ask.limit (limit_back m given ask.limit is asks.1.2.1)
limit_none name flag m given add delete live bundles journal restart is none
    (Said (SaysStep (Undo limit events))) asks =
    none limit (limit_back m given limit is asks.1.2)
limit_none name flag m given add delete live bundles journal restart is none
    (Said (SaysStep (Redo limit events))) asks =
    none limit (limit_back m given limit is asks.1.2)
limit_none name flag m given add delete live bundles journal restart is none
    (Said (SaysStep (Add word contents force))) asks =
    apart name (codes "add") add asks.0
limit_none name flag m given add delete live bundles journal restart is none
    (Said (SaysStep (Delete words force))) asks =
    apart name (codes "delete") delete asks.0
limit_none name flag m given add delete live bundles journal restart is none
    (Said (SaysDry ask)) asks =
    none ask.limit (limit_back m given ask.limit is asks.1.1.1)
limit_none name flag m given add delete live bundles journal restart is none (Said SaysLive) asks =
    apart name (codes "live") live asks.0
limit_none name flag m given add delete live bundles journal restart is none
    (Said SaysBundles) asks =
    apart name (codes "bundles") bundles asks.0
limit_none name flag m given add delete live bundles journal restart is none
    (Said SaysJournal) asks =
    apart name (codes "journal") journal asks.0
limit_none name flag m given add delete live bundles journal restart is none WantsDryUndo asks =
    none asks.1.1.0 (limit_back m given asks.1.1.0 is asks.1.1.1)
limit_none name flag m given add delete live bundles journal restart is none WantsDryRedo asks =
    none asks.1.1.0 (limit_back m given asks.1.1.0 is asks.1.1.1)
limit_none name flag m given add delete live bundles journal restart is none
    (WantsDryRestart names) asks =
    apart name (codes "restart") restart asks.0
limit_none name flag m given add delete live bundles journal restart is none WantsDown asks =
    apart name (codes "live") live asks.0

-- what the words of `add` add is what its matches ask, and only that
pub adds_asks : (given : Text) (rows : List Row) (words : List Text) (force : Bool)
    (what : OnceSaying)
    → words ≡ words_in rows → force ≡ is_on (codes "force") rows → Adds words force what
    → AsksWhat (codes "add") given rows what
adds_asks given rows words force (Said (SaysStep (Add name contents forced))) is flag adds =
    (refl, (sym is ∙ adds.0, adds.1, adds.2 ∙ flag))
adds_asks given rows words force other is flag adds = absurd adds

pub asks_adds : (given : Text) (rows : List Row) (words : List Text) (force : Bool)
    (what : OnceSaying)
    → words ≡ words_in rows → force ≡ is_on (codes "force") rows
    → AsksWhat (codes "add") given rows what → Adds words force what
asks_adds given rows words force (Said (SaysStep (Add name contents forced))) is flag asks =
    (is ∙ asks.1.0, asks.1.1, asks.1.2 ∙ sym flag)
asks_adds given rows words force other is flag asks =
    absurd (apart (codes "add") (once_command other) refl asks.0)

-- without a word nothing is added
pub adds_nothing : (force : Bool) (what : OnceSaying) → Adds [] force what → ⊥
adds_nothing force (Said (SaysStep (Add name contents forced))) adds =
    let both : [] ≡ name ∷ contents = adds.0 in cc
adds_nothing force other adds = adds
