-- How the store of a command keeps what comes next.
use Rattle.std.specs.Prelude.{ℕ, List, Option, None, Some, option_map, if◌then◌else◌}
use Rattle.std.specs.Borrow.{Bor}
use Rattle.std.specs.Option.{option_map_or}
use Rattle.rc_model.specs.Session.{Redo, Undo}
use Rattle.rc_script.specs.Says.{SaysStep}
use Rattle.rc_args.specs.OnceAsked.{OnceSaying, Said, once_saying_of}
use Rattle.rc_args.specs.declared.session_command.SessionCommand.{SessionCommand}
use Rattle.rc_args.specs.declared.session_command.SessionCommand.TheVariants as command
use Rattle.rc_historytext.specs.declared.keeping.Keeping.{Keeping}
use Rattle.rc_historytext.specs.declared.keeping.Keeping.TheVariants.{Command, Seal, Step, Way}
use Rattle.rc_launch.specs.HeldHistory.{history_found}
use Rattle.rc_launch.specs.Loading.{path_of}
use Rattle.rc_launch.specs.Putting.{Manner, begins_next, manner_of, stepping}
use Rattle.rc_launch.specs.declared.live_store.LiveStore.{LiveStore}
use Rattle.rc_launch.specs.declared.opened.Opened.{Opened}
use Rattle.rc_launch.specs.declared.texts.FileText.{FileText}

-- what a line does to the states of a session: an undo and a redo lead along them
abbrev pub keeping_said : OnceSaying → Keeping
keeping_said (Said (SaysStep (Undo limit events))) = Way
keeping_said (Said (SaysStep (Redo limit events))) = Way
keeping_said other = Command

-- what a command does to them
abbrev pub keeping_for : SessionCommand → Keeping
keeping_for (command.Lines request) = Way
keeping_for (command.Line request) = keeping_said (once_saying_of request.once)
keeping_for (command.Update request) = Step
keeping_for (command.Restart request) = Step
keeping_for (command.Seal request) = Seal
keeping_for (command.Status request) = Way
keeping_for (command.Check request) = if request.repairs then Step else Way

-- the store of such a command keeps what comes next so, behind what stands there
abbrev pub manner_for : SessionCommand → Manner
manner_for asked = record (stepping None) { keeping = keeping_for asked }

-- the file of the database with which a history begins: who may not read it may not read that
abbrev pub source_by : (found : Option (List ℕ)) → Option FileText → Option (Bor (List ℕ))
source_by None base = option_map path_of base
source_by (Some history) base = None

abbrev pub source_of : Opened → Option (Bor (List ℕ))
source_of opened = source_by (history_found opened.live) opened.loaded.base

-- the same of what is put next: where a generation begins with it, the file of its database
abbrev pub source_next : LiveStore → Option (Bor (List ℕ))
source_next store =
    option_map_or (λ next. Some next.source) (begins_next (manner_of store)) store.source
