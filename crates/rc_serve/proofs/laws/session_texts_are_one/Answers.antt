use Rattle.rc_serve.proofs.Once.{one_text}
use Rattle.rc_serve.proofs.laws.session_texts_are_one.Goals as goal

pub returns : goal.returns
returns c fails d here a b bytes text other p q =
    one_text c.lines_say_one_thing.ensures fails d here bytes text other a b p q
