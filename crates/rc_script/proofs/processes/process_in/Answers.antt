use Rattle.std.proofs.Common.{◌≡◌, ◌<◌, ◌∷◌, [], ℕ, List, None, Bor, arith, length, map, refl}
use Rattle.rc_script.specs.Processes.{process_in}
use Rattle.rc_script.proofs.processes.process_in.Goals as goal

-- fewer than three words name no program
few : (name : List ℕ) (words : List (Bor (List ℕ))) → length words < 3
    → None ≡ process_in name (map (λ word. word.now) words)
few name [] low = refl
few name (mark ∷ []) low = refl
few name (mark ∷ verb ∷ []) low = refl
few name (mark ∷ verb ∷ named ∷ numbers) low = absurd (omega (arith, low))

pub returns-in_default : goal.returns-in_default
returns-in_default c = few c.args.name.now c.args.words.now c.in_default.len_below
