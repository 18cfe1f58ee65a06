-- The laws, from the lemmas on machines.
use Rattle.std.proofs.Common.{sym, ap, ◌∙◌}
use Rattle.unwinding.specs.Setting.{Setting}
use Rattle.unwinding.specs.SiteRun.{site_run}
use Rattle.unwinding.specs.Laws.{UnsharedUnwound, EpochUnwound, Unwound, SameReplies, PrintedUnwound}
use Rattle.unwinding.specs.Laws.{RestartProjects, DurableFollows, CourseEnds}
use Rattle.unwinding.specs.Admissible.{history_epochs}
use Rattle.unwinding.specs.CourseSteps.{MayKeep, last_opening}
use Rattle.unwinding.proofs.UnsharedReplies.{unshared_replies}
use Rattle.unwinding.proofs.EpochReplies.{lines_replies}
use Rattle.unwinding.proofs.Restarts.{history_replies, restart_agrees}
use Rattle.unwinding.proofs.Transcripts.{history_sites}
use Rattle.unwinding.proofs.DurableLines.{line_kept, lines_kept, restarted_kept}
use Rattle.unwinding.proofs.CourseRestarts.{ends_lost, ends_answered, flushed}
use Rattle.unwinding.proofs.Tests.{held_of}

module _ (x : Setting) where
  pub unshared_unwound : UnsharedUnwound x
  unshared_unwound f = unshared_replies x.machine f

  pub epoch_unwound : EpochUnwound x
  epoch_unwound f = lines_replies x.machine x.IsSound f

  pub unwound : Unwound x
  unwound f s o v es = history_replies x.machine x.keeping x.IsSound f.facts x.IsValid f.keeping s o es v

  pub same_replies : SameReplies x
  same_replies f s o p v u es fs same = unwound f s o v es ∙ ap (site_run x.machine x.keeping s) same ∙ sym (unwound f s p u fs)

  pub printed_unwound : PrintedUnwound x
  printed_unwound f reopened down none none_down s o v h = history_sites x.machine x.keeping o reopened down none none_down s h ∙ unwound f s o v (history_epochs h)

  pub restart_projects : RestartProjects x
  restart_projects =
      record {
        partition = λ f s o v e next. sym (restart_agrees x.machine x.keeping x.IsSound f.facts x.IsValid f.keeping s o.rest next o.state e v).partition;
        cell = λ f s o v e next c home clean. sym ((restart_agrees x.machine x.keeping x.IsSound f.facts x.IsValid f.keeping s o.rest next o.state e v).cell c (held_of (x.machine.is_home s c) _ home clean));
      }

  pub durable_follows : DurableFollows x
  durable_follows =
      record {
        opening = λ f q r d v. restarted_kept x.machine x.keeping x.IsSound f.facts x.IsValid f.keeping q r d v;
        line = λ f q w l d ok is. line_kept x.machine x.keeping x.IsSound f.facts x.IsValid f.keeping q w l d ok is;
        lines = λ f q w ls d ok is. lines_kept x.machine x.keeping x.IsSound f.facts x.IsValid f.keeping q w ls d ok is;
      }

  pub course_ends : CourseEnds x
  course_ends =
      record {
        lost = λ batch o r a on. ends_lost x.machine x.keeping batch o r a (MayKeep x.machine x.keeping batch (last_opening x.machine x.keeping o r) r) on;
        answered = λ batch o r a none on. ends_answered x.machine x.keeping batch o r a (MayKeep x.machine x.keeping batch (last_opening x.machine x.keeping o r) r) none on;
        flushed = λ batch o r d n. flushed x.machine x.keeping batch o r d n;
      }
