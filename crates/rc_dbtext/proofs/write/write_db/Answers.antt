use Rattle.std.proofs.Common.{◌≡◌, ◌∙◌, ◌++◌, ◌∷◌, [], ℕ, List, rules, ap}
use Rattle.std.specs.Prelude.{codes}
use Rattle.rc_dbtext.specs.Text.{line_of_words}
use Rattle.rc_dbtext.proofs.Writing.{parts_written}
use Rattle.rc_dbtext.proofs.write.write_db.Goals as goal

pub returns : goal.returns
returns c =
    let last : c.extend_from_slice.new.self.items ≡ c.push_bundles.new.out.items
    ++ (codes "end" ++ 10 ∷ []) = search rules in
    let first : c.push_line.new.out.items ≡ line_of_words (codes "undorc-db" ∷ codes "1" ∷ []) =
    c.in_ok-push_line.ensures.written
    ∙ ap (λ (l : List ℕ). l ++ line_of_words (codes "undorc-db" ∷ codes "1" ∷ []))
    c.new-out.ensures.items in
    parts_written c.args.db.now c.push_line.new.out.items c.push_services.new.out.items
    c.push_bundles.new.out.items c.extend_from_slice.new.self.items first
    c.in_ok-push_services.ensures c.in_ok-push_bundles.ensures last
