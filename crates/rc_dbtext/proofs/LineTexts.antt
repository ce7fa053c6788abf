-- The kinds of lines: the words of each are UTF-8.
use Rattle.std.proofs.Common.{ℕ, Bool, true, false, List, [], ◌∷◌, length, All, Option, Some, None}
use Rattle.std.proofs.Common.{IfSome, arith, refl}
use Rattle.std.proofs.lemmas.List.Elements.{All-cons}
use Rattle.std.specs.Prelude.{codes}
use Rattle.std.specs.Fmt.{decimal}
use Rattle.std.specs.Str.{IsUtf8}
use Rattle.rc_model.specs.declared.Kind.{Kind}
use Rattle.rc_model.specs.declared.Kind.TheVariants as kinds
use Rattle.rc_model.specs.Names.{IsName}
use Rattle.rc_db.specs.Service.{IsScript}
use Rattle.rc_dbtext.specs.Text.{OfService, OfNeeds, OfProducer, OfUp, OfDown, OfBundle, Last}
use Rattle.rc_dbtext.specs.Text.{Head}
use Rattle.rc_dbtext.specs.Text.{BundleText, IsHead, IsBundleText, words, kind_word, flag_word}
use Rattle.rc_dbtext.specs.Text.{or_dash, length_word}
use Rattle.rc_dbtext.proofs.Texts.{one_text, text_decimal, text_from, text_names}

text_kind : (kind : Kind) → IsUtf8 (kind_word kind)
text_kind kinds.Oneshot = text_from (codes "oneshot") refl
text_kind kinds.Longrun = text_from (codes "longrun") refl
text_kind kinds.Bundle = text_from (codes "bundle") refl

text_flag : (flag : Bool) → IsUtf8 (flag_word flag)
text_flag true = text_from (codes "essential") refl
text_flag false = text_from (codes "plain") refl

text_dash : (name : Option (List ℕ)) → IfSome name IsName → IsUtf8 (or_dash name)
text_dash None is = text_from (codes "-") refl
text_dash (Some name) is = is.utf8

text_length : (text : Option (List ℕ)) → IfSome text IsScript → IsUtf8 (length_word text)
text_length None is = text_from (codes "-") refl
text_length (Some text) is = text_decimal (length text) (omega (arith, is.short))

-- a literal and others
others : (word : List ℕ) (ws : List (List ℕ)) → IsUtf8 word → All IsUtf8 ws → All IsUtf8 (word ∷ ws)
others word ws text each = All-cons IsUtf8 word ws text each

pub text_head : (head : Head) → IsHead head → All IsUtf8 (words (OfService head))
text_head head is =
    let up : List ℕ = decimal head.limit_up in
    let down : List ℕ = decimal head.limit_down in
    let flag : List ℕ = flag_word head.essential in
    let kind : List ℕ = kind_word head.kind in
    others (codes "service") (head.name ∷ kind ∷ flag ∷ up ∷ down ∷ [])
    (text_from (codes "service") refl)
    (others head.name (kind ∷ flag ∷ up ∷ down ∷ []) is.name.utf8
    (others kind (flag ∷ up ∷ down ∷ []) (text_kind head.kind)
    (others flag (up ∷ down ∷ []) (text_flag head.essential)
    (others up (down ∷ []) (text_decimal head.limit_up (omega (arith, is.limit_up)))
    (one_text down (text_decimal head.limit_down (omega (arith, is.limit_down))))))))

pub text_needs : (names : List (List ℕ)) → All IsName names → All IsUtf8 (words (OfNeeds names))
text_needs names each =
    others (codes "needs") names (text_from (codes "needs") refl) (text_names names each)

pub text_producer : (producer_for : Option (List ℕ)) → IfSome producer_for IsName
    → All IsUtf8 (words (OfProducer producer_for))
text_producer producer_for is =
    others (codes "producer") (or_dash producer_for ∷ []) (text_from (codes "producer") refl)
    (one_text (or_dash producer_for) (text_dash producer_for is))

pub text_up : (text : List ℕ) → IsScript text → All IsUtf8 (words (OfUp text))
text_up text is =
    others (codes "up") (decimal (length text) ∷ []) (text_from (codes "up") refl)
    (one_text (decimal (length text)) (text_decimal (length text) (omega (arith, is.short))))

pub text_down : (text : Option (List ℕ)) → IfSome text IsScript → All IsUtf8 (words (OfDown text))
text_down text is =
    others (codes "down") (length_word text ∷ []) (text_from (codes "down") refl)
    (one_text (length_word text) (text_length text is))

pub text_bundle : (b : BundleText) → IsBundleText b → All IsUtf8 (words (OfBundle b))
text_bundle b is =
    others (codes "bundle") (b.name ∷ b.members) (text_from (codes "bundle") refl)
    (others b.name b.members is.name.utf8 (text_names b.members is.members))

pub text_last : All IsUtf8 (words Last)
text_last = one_text (codes "end") (text_from (codes "end") refl)
