-- What a check has repaired of what it found, and its status.
use Rattle.std.specs.Prelude.{◌≡◌, ◌⊎◌, ◌==◌, ℕ, Bool, false, List, [], Option, Some}
use Rattle.std.specs.Prelude.{if◌then◌else◌}
use Rattle.std.specs.Borrow.{Bor}
use Rattle.rc_model.specs.Database.{Database}
use Rattle.rc_dbtext.specs.Base.{Spells}
use Rattle.rc_historytext.specs.Present.{IsPresent}
use Rattle.rc_serve.specs.declared.ending.Ending.TheVariants.{Done}
use Rattle.rc_args.specs.NamedAsked.{NamedAsk}
use Rattle.rc_args.specs.SessionAsked.{SessionAsk}
use Rattle.rc_cli.specs.Checking.{ChecksText, Finding}
use Rattle.rc_cli.specs.Services.{IsDoneFor}
use Rattle.rc_cli.specs.Straying.{LowersAs}
use Rattle.rc_cli.specs.declared.sessions.keeping.LiveFile.TheVariants.{Text}
use Rattle.rc_launch.specs.TwoSteps.{Restarts, TakesBackInside}

-- that of the restart of what was down, if it is not 0; else 2 where a stray is not brought down;
-- else 3 where a longrun is not known
abbrev pub mended_status : (restarted lowered : ℕ) → (unknown : Bool) → ℕ
mended_status restarted lowered unknown = if restarted == 0
    then (if lowered == 0 then (if unknown then 3 else 0) else 2) else restarted

-- the strays are down, by a session of their own on the database of a text
abbrev pub AreLowered : (base : List ℕ) → SessionAsk → (strays : List (List ℕ)) → Type 0
AreLowered base ask strays = (d : Database) × Spells (Some base) [] d []
    × (written : Option (List ℕ)) × (gained : Option (List ℕ))
    × IsDoneFor d ask.workers ask.making (λ Does As. LowersAs As Done d strays written gained)

-- what was found is repaired: a longrun is not unknown, the strays are down, and what has fallen is
-- restarted in the present generation of a history
abbrev pub Repairs : Finding → (base : List ℕ) → SessionAsk → (bytes is : List ℕ) → Type 0
Repairs finding base ask bytes is = (finding.unknown ≡ false)
    × ((finding.strays ≡ []) ⊎ AreLowered base ask finding.strays)
    × (((finding.fallen ≡ []) × (is ≡ bytes)) ⊎ Restarts Done finding.fallen bytes is)

-- a check of the present generation has repaired all that it found there
abbrev pub Mends : NamedAsk → SessionAsk → (bytes is : List ℕ) → Type 0
Mends asked ask bytes is = (database : List ℕ) × (session : Bor (List ℕ)) × (finding : Finding)
    × IsPresent bytes database session.now × ChecksText database asked (Text session) finding
    × Repairs finding database ask bytes is

-- the same once what an undo takes back inside is taken back
abbrev pub MendsFrom : NamedAsk → SessionAsk → (was is : List ℕ) → Type 0
MendsFrom asked ask was is = (taken : Bool) × (between : List ℕ)
    × TakesBackInside taken was between × Mends asked ask between is
