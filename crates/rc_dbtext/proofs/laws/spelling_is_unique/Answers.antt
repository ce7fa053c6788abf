use Rattle.rc_dbtext.specs.Spelling.{spelling, text_of}
use Rattle.rc_dbtext.proofs.Spelled.{can_be_spelled}
use Rattle.rc_dbtext.proofs.Unique.{text_once}
use Rattle.rc_dbtext.proofs.laws.spelling_is_unique.Goals as goal

pub returns-clause-front : goal.returns-clause-front
unfolding spelling
returns-clause-front c a b rest is_a can_a is_b can_b same =
    c.text_is_unique.ensures.front (text_of a) (text_of b) rest (can_be_spelled a is_a can_a)
    (can_be_spelled b is_b can_b) same

pub returns-clause-value : goal.returns-clause-value
unfolding spelling
returns-clause-value c a b x y is_a can_a is_b can_b same =
    text_once a b is_a can_a is_b can_b
    (c.text_is_unique.ensures.value (text_of a) (text_of b) x y (can_be_spelled a is_a can_a)
    (can_be_spelled b is_b can_b) same)
