-- What was read is what a command is carried out on.
use Rattle.std.proofs.Common.{◌≡◌, ℕ, List, Option}
use Rattle.std.proofs.Common.{option_map, subst}
use Rattle.rc_args.specs.NamedAsked.{named_ask_of}
use Rattle.rc_args.specs.SessionAsked.{session_ask_of}
use Rattle.rc_args.specs.UpdateAsked.{update_ask_of}
use Rattle.rc_args.specs.declared.named_words.NamedRequest.{NamedRequest}
use Rattle.rc_args.specs.declared.once_words.OnceRequest.{OnceRequest}
use Rattle.rc_args.specs.declared.update_words.UpdateRequest.{UpdateRequest}
use Rattle.rc_args.specs.declared.session_request.SessionRequest.{SessionRequest}
use Rattle.rc_cli.specs.Checking.{TellsCheck}
use Rattle.rc_cli.specs.Sealing.{SealsAs}
use Rattle.rc_cli.specs.Status.{RunLog, TellsStatus}
use Rattle.rc_cli.specs.UpdateEnds.{Updates}
use Rattle.rc_cli.specs.Launching.{Launches}
use Rattle.rc_cli.specs.Session.{Dealing, asked_with}
use Rattle.rc_cli.specs.declared.sessions.keeping.LiveFile.{LiveFile}
use Rattle.rc_cli.specs.declared.sessions.service.Service.{Service}
use Rattle.rc_launch.specs.Serving.{CarriesOut, IsLineOf, IsRestartOf}
use Rattle.rc_launch.specs.Loading.{bytes_in, bytes_of}
use Rattle.rc_args.specs.declared.session_command.SessionCommand.TheVariants as command
use Rattle.rc_launch.specs.declared.texts.FileText.{FileText}

module _ (log : RunLog) (file : LiveFile) (status : ℕ) (deal : Dealing)
    (reader writer keeper : Type 0) (before after : Option (List ℕ)) where
  -- one line
  pub line_carried : (request : OnceRequest) (base new : Option FileText) (service : Service)
      (given : Option (List ℕ)) → given ≡ option_map bytes_in base → IsLineOf request service
      → Launches service (asked_with (session_ask_of request.session) given file) status deal
      reader writer keeper before after
      → CarriesOut (command.Line request) base new log file status deal reader writer keeper
      before after
  line_carried request base new service given same is launched = (
    service,
    is,
    subst (λ (bytes : Option (List ℕ)). Launches service
        (asked_with (session_ask_of request.session) bytes file) status deal reader writer keeper
        before after) same launched,
  )

  -- a restart
  pub restart_carried : (request : NamedRequest) (base new : Option FileText) (service : Service)
      (given : Option (List ℕ)) → given ≡ option_map bytes_in base → IsRestartOf request service
      → Launches service (asked_with (session_ask_of request.session) given file) status deal
      reader writer keeper before after
      → CarriesOut (command.Restart request) base new log file status deal reader writer keeper
      before after
  restart_carried request base new service given same is launched = (
    service,
    is,
    subst (λ (bytes : Option (List ℕ)). Launches service
        (asked_with (session_ask_of request.session) bytes file) status deal reader writer keeper
        before after) same launched,
  )

  -- an update
  pub update_carried : (request : UpdateRequest) (old new : Option FileText) (from to : List ℕ)
      → from ≡ bytes_of old → to ≡ bytes_of new
      → Updates from to (update_ask_of request) file status deal.was deal.is deal.io.written
      deal.io.gained writer keeper before after
      → CarriesOut (command.Update request) old new log file status deal reader writer keeper
      before after
  update_carried request old new from to is_old is_new updated =
      subst (λ (bytes : List ℕ). Updates bytes (bytes_of new) (update_ask_of request) file status
      deal.was deal.is deal.io.written deal.io.gained writer keeper before after) is_old
      (subst (λ (bytes : List ℕ). Updates from bytes (update_ask_of request) file status deal.was
      deal.is deal.io.written deal.io.gained writer keeper before after) is_new updated)

  -- a seal
  pub seal_carried : (request : SessionRequest) (base new : Option FileText) (bytes : List ℕ)
      → bytes ≡ bytes_of base
      → SealsAs bytes request.bound file status deal.was deal.is deal.io.written deal.io.gained
      writer keeper before after
      → CarriesOut (command.Seal request) base new log file status deal reader writer keeper
      before after
  seal_carried request base new bytes same sealed =
      subst (λ (text : List ℕ). SealsAs text request.bound file status deal.was deal.is
      deal.io.written deal.io.gained writer keeper before after) same sealed

  -- a check
  pub check_carried : (request : NamedRequest) (base new : Option FileText) (bytes : List ℕ)
      → bytes ≡ bytes_of base
      → TellsCheck bytes (named_ask_of request) file status writer deal.io.written
      deal.io.gained before after
      → CarriesOut (command.Check request) base new log file status deal reader writer keeper
      before after
  check_carried request base new bytes is_base told =
      subst (λ (text : List ℕ). TellsCheck text (named_ask_of request) file status writer
      deal.io.written deal.io.gained before after) is_base told

  -- a question
  pub status_carried : (request : NamedRequest) (base new : Option FileText) (bytes : List ℕ)
      (logged : RunLog) → bytes ≡ bytes_of base → logged ≡ log
      → TellsStatus bytes (named_ask_of request) file logged status writer deal.io.written
      deal.io.gained before after
      → CarriesOut (command.Status request) base new log file status deal reader writer keeper
      before after
  status_carried request base new bytes logged is_base is_log told =
      subst (λ (text : List ℕ). TellsStatus text (named_ask_of request) file log status writer
      deal.io.written deal.io.gained before after) is_base
      (subst (λ (seen : RunLog). TellsStatus bytes (named_ask_of request) file seen status writer
      deal.io.written deal.io.gained before after) is_log told)
