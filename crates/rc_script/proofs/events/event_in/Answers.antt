use Rattle.std.proofs.Common.{◌<◌, ℕ, List, length, map, arith}
use denote.Ref.{Bor}
use Rattle.std.proofs.lemmas.List.{length-map}
use Rattle.rc_script.proofs.EventWords.{too_few}
use Rattle.rc_script.proofs.events.event_in.Goals as goal

abbrev text : Bor (List ℕ) → List ℕ
text b = b.now

pub returns-in_default : goal.returns-in_default
returns-in_default c =
    let few : length (map text c.args.words.now) < 3 =
    omega (arith, length-map c.args.words.now text, c.in_default.len_below) in
    too_few c.args.names.now (map text c.args.words.now) few
