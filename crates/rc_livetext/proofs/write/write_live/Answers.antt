use Rattle.std.proofs.Common.{◌≡◌, ◌∙◌, [], ◌∷◌, ◌++◌, ℕ, List, Some, ap, rules}
use Rattle.std.specs.Prelude.{codes}
use Rattle.rc_model.specs.Database.{Database}
use Rattle.rc_model.specs.Line.{Line, states, cursor}
use Rattle.rc_line.specs.Opening.{Journal}
use Rattle.rc_dbtext.specs.Form.{spells}
use Rattle.rc_livetext.specs.Text.{Last, head_lines, spell}
use Rattle.rc_livetext.specs.Written.{state_bytes}
use Rattle.rc_livetext.proofs.Writing.{line_written}
use Rattle.rc_livetext.proofs.write.write_live.Goals as goal

pub returns : goal.returns
returns c =
    let d : Database = c.args.session.now.database in
    let line : Line = c.args.session.now.line in
    let n : c.names-names.result.now ≡ d.names =
    c.names-names.ensures.names ∙ ap (λ (x : Database). x.names) c.db.ensures.db in
    let l : c.journal-line.result.now.line ≡ line =
    ap (λ (x : Journal). x.line) c.journal-line.ensures.journal in
    let b : c.bound.result ≡ line.bound = c.bound.ensures ∙ ap (λ (x : Line). x.bound) l in
    let last : c.extend_from_slice.new.self.items ≡ c.push_whole.new.out.items
    ++ (codes "end" ++ 10 ∷ []) = search rules in
    let told : c.push_whole.new.out.items
    ≡ spells spell (head_lines c.names-names.result.now (Some c.bound.result)) ++ state_bytes
    c.names-names.result.now (cursor c.journal-line.result.now.line) 0
    (states c.journal-line.result.now.line) =
    c.in_ok-push_whole.ensures
    ∙ ap (λ (t : List ℕ). t ++ state_bytes c.names-names.result.now
    (cursor c.journal-line.result.now.line) 0 (states c.journal-line.result.now.line))
    (c.in_ok-push_head.ensures
    ∙ ap (λ (t : List ℕ). t ++ spells spell
    (head_lines c.names-names.result.now (Some c.bound.result))) c.new-out.ensures.items) in
    last ∙ (ap (λ (t : List ℕ). t ++ spell Last) told
    ∙
    ((λ k. (spells spell (head_lines (n k) (Some (b k))) ++ state_bytes (n k) (cursor (l k)) 0
    (states (l k))) ++ spell Last)
    ∙ line_written d line))
