-- What the words ask of a session, by the matches that `clap` makes of them.
use Rattle.std.proofs.Common.{◌≡◌, ◌∙◌, ℕ, List, Option, None, Some, sym, subst, codes}
use Rattle.clap.specs.Matches.{first_value, found_of}
use Rattle.clap.specs.Words.{Text, first_of, rows_of}
use Rattle.clap.specs.declared.ArgMatches.{ArgMatches}
use Rattle.clap.proofs.WalkLemmas.{first_value-rows}
use Rattle.rc_args.specs.Limits.{IsLimitIn}
use Rattle.rc_args.specs.Listed.{Listed, SpellsList}
use Rattle.rc_args.specs.Programs.{ByPrograms, ByTable, MakesBy, MakesIn, MakingAsk}

-- what is said of a text that is found in the matches is said of it in their rows, and the other
-- way round
pub found_as : (Says : Option Text → Type 0) (m : ArgMatches) (id : Text) (given : Option Text)
    → given ≡ first_value (found_of m) id → Says given → Says (first_of id (rows_of (found_of m)))
found_as Says m id given is = subst Says (is ∙ first_value-rows (found_of m) id)

pub found_back : (Says : Option Text → Type 0) (m : ArgMatches) (id : Text) (given : Option Text)
    → given ≡ first_value (found_of m) id → Says (first_of id (rows_of (found_of m))) → Says given
found_back Says m id given is = subst Says (sym (is ∙ first_value-rows (found_of m) id))

-- a text that is found in the matches is found in their rows
pub text_found : (m : ArgMatches) (id : Text) (given : Option Text)
    → given ≡ first_value (found_of m) id → given ≡ first_of id (rows_of (found_of m))
text_found m id given is = is ∙ first_value-rows (found_of m) id

-- how the transitions are made, by the texts that are found in the matches
pub made_right : (m : ArgMatches) (list runner controller limit : Option Text) (making : MakingAsk)
    → list ≡ first_value (found_of m) (codes "failing")
    → runner ≡ first_value (found_of m) (codes "runner")
    → controller ≡ first_value (found_of m) (codes "controller")
    → limit ≡ first_value (found_of m) (codes "usual") → MakesBy list runner controller limit making
    → MakesIn (rows_of (found_of m)) making
made_right m list runner controller limit making first second third fourth makes =
    found_as (λ (o : Option Text). MakesBy (first_of (codes "failing") (rows_of (found_of m)))
    (first_of (codes "runner") (rows_of (found_of m)))
    (first_of (codes "controller") (rows_of (found_of m))) o making) m (codes "usual") limit fourth
    (found_as (λ (o : Option Text). MakesBy (first_of (codes "failing") (rows_of (found_of m)))
    (first_of (codes "runner") (rows_of (found_of m))) o limit making) m (codes "controller")
    controller third
    (found_as (λ (o : Option Text). MakesBy (first_of (codes "failing") (rows_of (found_of m))) o
    controller limit making) m (codes "runner") runner second
    (found_as (λ (o : Option Text). MakesBy o runner controller limit making) m (codes "failing")
    list first makes)))

pub made_back : (m : ArgMatches) (list runner controller limit : Option Text) (making : MakingAsk)
    → list ≡ first_value (found_of m) (codes "failing")
    → runner ≡ first_value (found_of m) (codes "runner")
    → controller ≡ first_value (found_of m) (codes "controller")
    → limit ≡ first_value (found_of m) (codes "usual") → MakesIn (rows_of (found_of m)) making
    → MakesBy list runner controller limit making
made_back m list runner controller limit making first second third fourth makes =
    found_back (λ (o : Option Text). MakesBy o runner controller limit making) m
    (codes "failing") list first
    (found_back (λ (o : Option Text). MakesBy (first_of (codes "failing") (rows_of (found_of m))) o
    controller limit making) m (codes "runner") runner second
    (found_back (λ (o : Option Text). MakesBy (first_of (codes "failing") (rows_of (found_of m)))
    (first_of (codes "runner") (rows_of (found_of m))) o limit making) m (codes "controller")
    controller third
    (found_back (λ (o : Option Text). MakesBy (first_of (codes "failing") (rows_of (found_of m)))
    (first_of (codes "runner") (rows_of (found_of m)))
    (first_of (codes "controller") (rows_of (found_of m))) o making) m (codes "usual") limit
    fourth makes)))

-- with a list, what is asked is its table
pub listed_none : (text : Text) (runner controller limit : Option Text)
    → ((all : List Listed) → SpellsList text all → ⊥) → (making : MakingAsk)
    → MakesBy (Some text) runner controller limit making → ⊥
listed_none text runner controller limit none (ByTable failing) makes = none failing makes
listed_none text runner controller limit none (ByPrograms first second usual) makes = makes

-- without a list and with a limit that is none, nothing is asked
pub unlimited_none : (runner controller limit : Option Text)
    → ((usual : ℕ) → IsLimitIn limit usual → ⊥) → (making : MakingAsk)
    → MakesBy None runner controller limit making → ⊥
unlimited_none runner controller limit none (ByTable failing) makes = makes
unlimited_none runner controller limit none (ByPrograms first second usual) makes =
    none usual makes.2
