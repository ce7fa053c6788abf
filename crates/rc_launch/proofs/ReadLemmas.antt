-- The texts of a session and of its database that were read.
use Rattle.std.proofs.Common.{◌≡◌, ℕ, List, [], Option, None, Some, option_map, refl}
use Rattle.std.proofs.Common.{IfOk, Ok, Result, subst, sym}
use Rattle.std.proofs.lemmas.Option.{none-some, same_Some}
use Rattle.std.specs.Borrow.{Bor}
use Rattle.rc_model.specs.Database.{Database}
use Rattle.rc_model.specs.Line.{Line}
use Rattle.rc_dbtext.specs.Base.{Spells}
use Rattle.rc_historytext.specs.Present.{IsPresent}
use Rattle.rc_args.specs.SessionAsked.{session_ask_of}
use Rattle.rc_args.specs.declared.session_request.SessionRequest.{SessionRequest}
use Rattle.rc_cli.specs.Filing.{BeginsBy, file_named}
use Rattle.rc_cli.specs.declared.sessions.keeping.LiveFile.{LiveFile}
use Rattle.rc_cli.specs.declared.sessions.keeping.LiveFile.TheVariants.{Text}
use Rattle.rc_launch.specs.Loading.{bytes_of, session_in}
use Rattle.rc_launch.specs.Readable.{AreRead, IsOpenedRead, IsPresentRead}
use Rattle.rc_launch.specs.Serving.{IsReadAs}
use Rattle.rc_launch.specs.declared.opened.Opened.{Opened}

-- what was made is so
pub made_so : {T E : Type 0} (result : Result T E) (made : T) (P : T → Type 0) → result ≡ Ok made
    → IfOk result P → P made
made_so {T} {E} result made P is so = subst (λ (r : Result T E). IfOk r P) is so

-- a database that was read, and where its session begins
pub read_both : (base : List ℕ) (d : Database) (rest : List ℕ) (request : SessionRequest)
    (live : LiveFile) (start : Line) → Spells (Some base) [] d rest
    → BeginsBy d request.bound (file_named (session_ask_of request).live live) start
    → AreRead base request live
read_both base d rest request live start spells begins =
    (d, (spells.0, spells.1, spells.2, refl), start, begins)

-- of what was opened
pub opened_read : (opened : Opened) (base : List ℕ) (request : SessionRequest) (live : LiveFile)
    → IsReadAs (λ bytes. bytes.items) opened.live.found live → base ≡ bytes_of opened.loaded.base
    → request ≡ session_in opened.loaded → AreRead base request live → IsOpenedRead opened
opened_read opened base request live is of by read = (
  live,
  is,
  subst (λ (r : SessionRequest). AreRead (bytes_of opened.loaded.base) r live) by
      (subst (λ (b : List ℕ). AreRead b request live) of read),
)

-- of a history
pub present_read : (asked request : SessionRequest) (bytes database : List ℕ)
    (session : Bor (List ℕ)) → asked ≡ request → IsPresent bytes database session.now
    → AreRead database asked (Text session) → IsPresentRead request bytes
present_read asked request bytes database session same present read = (
  database,
  session,
  present,
  subst (λ (r : SessionRequest). AreRead database r (Text session)) same read,
)

-- what was found where nothing is held, and where something is
pub none_found : (found : Option (Bor (List ℕ)))
    → option_map (λ (b : Bor (List ℕ)). b.now) found ≡ None → found ≡ None
none_found None none = refl
none_found (Some bytes) none = absurd (none-some bytes.now (sym none))

pub some_found : (found : Option (Bor (List ℕ))) (bytes : List ℕ)
    → option_map (λ (b : Bor (List ℕ)). b.now) found ≡ Some bytes
    → (b : Bor (List ℕ)) × (found ≡ Some b) × (b.now ≡ bytes)
some_found None bytes some = absurd (none-some bytes some)
some_found (Some b) bytes some = (b, refl, same_Some b.now bytes some)
