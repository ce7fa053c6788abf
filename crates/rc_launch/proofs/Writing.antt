-- The writes of several steps, one after the other.
use Rattle.std.proofs.Common.{◌≡◌, ◌∙◌, ◌⊎◌, inl, inr, ℕ, List, [], ◌∷◌, ◌++◌, map, refl, ap}
use Rattle.rc_recovery.specs.Files.{AfterCrash, Append, Empty, Files, Replace, Write, after}
use Rattle.rc_recovery.specs.Logging.{Logged, unlogged_writes, writes_of}
use Rattle.rc_launch.specs.HistoryRecoveries.{EndsWithHistory}
use Rattle.rc_launch.proofs.HistoryEnds.{Laws, empty_rests, ends_still}

abbrev pub files : (file log : List ℕ) → Files
files file log = record { file = file; log = log }

-- the files after writes
abbrev pub after_all : List Write → Files → Files
after_all [] f = f
after_all (w ∷ ws) f = after_all ws (after f w)

pub after_both : (ws vs : List Write) (f : Files)
    → after_all (ws ++ vs) f ≡ after_all vs (after_all ws f)
after_both [] vs f = refl
after_both (w ∷ ws) vs f = after_both ws vs (after f w)

-- a crash within two lists of writes comes within the first or the second
pub split : (ws vs : List Write) (f g : Files) → AfterCrash (ws ++ vs) f g
    → AfterCrash ws f g ⊎ AfterCrash vs (after_all ws f) g
split [] vs f g crash = inr crash
split (w ∷ ws) vs f g (inl same) = inl (inl same)
split (w ∷ ws) vs f g (inr (inl torn)) = inl (inr (inl torn))
split (w ∷ ws) vs f g (inr (inr later)) = elim (split ws vs (after f w) g later) [
  | inl first ↦ inl (inr (inr first))
  | inr second ↦ inr second
]

last_written : (lines : List (List ℕ)) (part kept : List ℕ) (f : Files)
    → after_all (map Append lines ++ Append part ∷ Replace kept ∷ Empty ∷ []) f ≡ files kept []
last_written [] part kept f = refl
last_written (t ∷ lines) part kept f = last_written lines part kept (after f (Append t))

-- a run replaces the file and leaves an empty log, whether it has one or not
pub run_written : (text : List ℕ) (l : Logged) (bytes kept : List ℕ)
    → after_all (writes_of text l kept) (files bytes []) ≡ files kept []
run_written text l bytes kept =
    last_written l.lines l.part kept (files bytes (text ++ l.step))

-- nothing is entered where the log is empty
module _ (laws : Laws) where
  pub at_rest : (x end : List ℕ) (g : Files) → g ≡ files x [] → EndsWithHistory g end → end ≡ x
  at_rest x end g same ends =
      ends_still laws g end (empty_rests laws g (ap (λ (f : Files). f.log) same)) ends
      ∙ ap (λ (f : Files). f.file) same

  -- so after one write that replaces the file it has the one text or the other
  pub one_write : (x y end : List ℕ) (g : Files) → AfterCrash (unlogged_writes y) (files x []) g
      → EndsWithHistory g end → (end ≡ x) ⊎ (end ≡ y)
  one_write x y end g (inl same) ends = inl (at_rest x end g same ends)
  one_write x y end g (inr (inl same)) ends = inl (at_rest x end g same ends)
  one_write x y end g (inr (inr same)) ends = inr (at_rest y end g same ends)
