use Rattle.rc_historytext.proofs.UpdatedBegins.{begun_gives, begun_stands, begun_stops}
use Rattle.rc_historytext.specs.Updates.{alone_in}
use Rattle.rc_historytext.proofs.update_laws.begun_texts_are_histories.Goals as goal

pub returns : goal.returns
returns c d line bytes is writable of begun = (
  c.sessions_are_histories.ensures (alone_in d line).present
      (record { database = is; line = of }),
  begun_stands d line bytes is writable of begun,
  begun_stops d line bytes is writable of begun (c.lines_are_texts.ensures.new d line is of),
  begun_gives d line bytes is writable of begun,
)
