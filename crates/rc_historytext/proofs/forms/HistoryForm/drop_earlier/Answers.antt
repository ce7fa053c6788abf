use Rattle.std.proofs.Common.{◌≡◌, ◌∙◌, ◌<◌, length, drop, ap, arith}
use Rattle.rc_historytext.specs.Text.{HistoryText, oldest_renames}
use Rattle.rc_historytext.specs.Moves.{as_oldest}
use Rattle.rc_historytext.proofs.Kept.{as_oldest_count, as_oldest_none}
use Rattle.rc_historytext.proofs.Changed.{drop_more, all_dropped_then}
use Rattle.rc_historytext.proofs.forms.HistoryForm.drop_earlier.Goals as goal

pub loop-preserved : goal.loop-preserved
loop-preserved c =
    let t : HistoryText = c.loop.self in
    let held = c.loop.invariant in
    let start : c.self.inside.present ≡ c.args.self.now.present =
    ap (λ (u : HistoryText). u.present) c.self.view_is in
    let some : 0 < t.present = omega (arith, held.place, start) in
    let now = c.drop_oldest.ensures in
    record {
      place = omega (arith, held.place, some, ap (λ (u : HistoryText). u.present) now);
      there =
          omega (
            arith,
            held.there,
            some,
            ap (λ (u : HistoryText). u.present) now,
            ap (λ (u : HistoryText). length u.generations) now,
            as_oldest_count t.generations,
          );
      none =
          ap (λ (u : HistoryText). oldest_renames u.generations) now
          ∙ as_oldest_none (drop 1 t.generations);
      same =
          ap (λ (u : HistoryText). as_oldest (drop u.present u.generations)) now
          ∙ drop_more t.present t.generations some ∙ held.same;
    }

pub returns : goal.returns
returns c =
    let held = c.loop.invariant in
    let start : c.self.inside.present ≡ c.args.self.now.present =
    ap (λ (u : HistoryText). u.present) c.self.view_is in
    all_dropped_then c.loop.self c.args.self.now (omega (arith, held.place, start)) held.none
    held.same
