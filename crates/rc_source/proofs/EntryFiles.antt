-- What reading some files of an entry says of them all.
use Rattle.std.proofs.Common.{◌≡◌, inl, inr, ℕ, List, [], ◌∷◌, ◌++◌, Some, sym, subst, codes}
use Rattle.std.proofs.lemmas.List.Elements.{All-cons, All-nil, All-append}
use Rattle.rc_source.specs.declared.fault.Flaw.{Flaw}
use Rattle.rc_source.specs.Tree.{Source}
use Rattle.rc_source.specs.Kinds.{Holds, KindWord, Flag, kind_of, files_of_kind, files_for}
use Rattle.rc_source.specs.Kinds.{limit_files, dependency_files, pipe_files, files_of_atomic}
use Rattle.rc_source.specs.Files.{FilePasses, StopsAtFile, FilesPass, StopsInFiles}
use Rattle.rc_source.specs.Tests.{files_of_entry}
use Rattle.rc_model.specs.declared.Kind.{Kind}
use Rattle.rc_source.proofs.Stopping.{stops_before, stops_behind}

module _ (source : Source) (entry : List ℕ) where
  -- two files
  pub two_pass : (a b : List ℕ × Holds) → FilePasses source entry a → FilePasses source entry b
      → FilesPass source entry (a ∷ b ∷ [])
  two_pass a b first second =
      All-cons (FilePasses source entry) a (b ∷ []) first
      (All-cons (FilePasses source entry) b [] second (All-nil (FilePasses source entry)))

  -- one before others
  pub one_passes : (a : List ℕ × Holds) (rest : List (List ℕ × Holds)) → FilePasses source entry a
      → FilesPass source entry rest → FilesPass source entry (a ∷ rest)
  one_passes a rest first all = All-cons (FilePasses source entry) a rest first all

  flag_passes : FilePasses source entry (codes "flag-essential", Flag)
  flag_passes flaw bad = bad

  module _ (limits : FilesPass source entry limit_files) where
    -- the files of services
    pub service_passes : FilesPass source entry dependency_files → FilesPass source entry pipe_files
        → FilesPass source entry files_of_atomic
    service_passes needs pipes =
        All-append (FilePasses source entry) limit_files
        (((codes "flag-essential", Flag) ∷ dependency_files) ++ pipe_files) limits
        (one_passes (codes "flag-essential", Flag) (dependency_files ++ pipe_files) flag_passes
        (All-append (FilePasses source entry) dependency_files pipe_files needs pipes))

    pub stops_at_flag : (flaw : Flaw) → StopsAtFile source entry (codes "flag-essential", Flag) flaw
        → StopsInFiles source entry files_of_atomic flaw
    stops_at_flag flaw h =
        stops_behind (FilePasses source entry) (λ file. StopsAtFile source entry file flaw)
        limit_files (((codes "flag-essential", Flag) ∷ dependency_files) ++ pipe_files) limits
        (inl h)

    pub stops_in_needs : (flaw : Flaw) → StopsInFiles source entry dependency_files flaw
        → StopsInFiles source entry files_of_atomic flaw
    stops_in_needs flaw h =
        stops_behind (FilePasses source entry) (λ file. StopsAtFile source entry file flaw)
        limit_files (((codes "flag-essential", Flag) ∷ dependency_files) ++ pipe_files) limits
        (inr (
          flag_passes,
          stops_before (FilePasses source entry) (λ file. StopsAtFile source entry file flaw)
              dependency_files pipe_files h,
        ))

    pub stops_in_pipes : (flaw : Flaw) → FilesPass source entry dependency_files
        → StopsInFiles source entry pipe_files flaw → StopsInFiles source entry files_of_atomic flaw
    stops_in_pipes flaw needs h =
        stops_behind (FilePasses source entry) (λ file. StopsAtFile source entry file flaw)
        limit_files (((codes "flag-essential", Flag) ∷ dependency_files) ++ pipe_files) limits
        (inr (
          flag_passes,
          stops_behind (FilePasses source entry) (λ file. StopsAtFile source entry file flaw)
              dependency_files pipe_files needs h,
        ))

  pub stops_in_limits : (flaw : Flaw) → StopsInFiles source entry limit_files flaw
      → StopsInFiles source entry files_of_atomic flaw
  stops_in_limits flaw h =
      stops_before (FilePasses source entry) (λ file. StopsAtFile source entry file flaw)
      limit_files (((codes "flag-essential", Flag) ∷ dependency_files) ++ pipe_files) h

  -- all files of an entry, where its kind is known
  pub entry_files_pass : (kind : Kind) → kind_of source entry ≡ Some kind
      → FilePasses source entry (codes "type", KindWord)
      → FilesPass source entry (files_of_kind kind)
      → FilesPass source entry (files_of_entry source entry)
  entry_files_pass kind is first all =
      subst (λ k. FilesPass source entry ((codes "type", KindWord) ∷ files_for k)) (sym is)
      (one_passes (codes "type", KindWord) (files_of_kind kind) first all)

  pub entry_files_stop : (kind : Kind) (flaw : Flaw) → kind_of source entry ≡ Some kind
      → FilePasses source entry (codes "type", KindWord)
      → StopsInFiles source entry (files_of_kind kind) flaw
      → StopsInFiles source entry (files_of_entry source entry) flaw
  entry_files_stop kind flaw is first h =
      subst (λ k. StopsInFiles source entry ((codes "type", KindWord) ∷ files_for k) flaw) (sym is)
      (inr (first, h))
