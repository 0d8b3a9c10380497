-- For each entry point in C: no two different outcomes, the answer and every lent byte, meet its contract for the same input, and no input is excluded.
-- The contracts are not copied: they are taken as the check generates them from the source, so a clause that is left out or says less is refused here, and so is a `requires`.
-- A new entry point has a `use` line, its reply as a function of what it is handed, and a field of the statement.
use mathlib.Core.Path.{◌≡◌, sym, ◌∙◌}
use lib.ListN.{take, drop}
use denote.Triple.Clauses.{Ended}
use Rattle.rules.specs.Session as page
use Rattle.rules.specs.SoloPart.{ask_solo}
use Rattle.rules.specs.RowBack.{row_back}
use Rattle.rules.specs.Panel as shares
use Rattle.text.specs.TextAnswered.{text_length, with_text}
use Rattle.hallanupp.specs.OneReply.{Lives, Call, Asks, Tells, Reply, Meets, Replies, OneReply}
use Rattle.rules.specs.Files.{files_verdict}
use Rattle.hallanupp.specs.Version.{version}
use Rattle.hallanupp.specs.VerdictInC.{table_verdict, in_c}
use Rattle.hallanupp.specs.RowInC.{row_in_c}
use Rattle.hallanupp.specs.PanelInC.{panel_in_c}
use Rattle.hallanupp.specs.SessionInC.{session_in_c}
use Rattle.hallanupp.specs.contracts.hallanupp_version as version_c
use Rattle.hallanupp.proofs.hallanupp_version.Reads as version_r
use Rattle.hallanupp.specs.contracts.hallanupp_table_verdict as table_c
use Rattle.hallanupp.proofs.hallanupp_table_verdict.Reads as table_r
use Rattle.hallanupp.specs.contracts.hallanupp_files_verdict as files_c
use Rattle.hallanupp.proofs.hallanupp_files_verdict.Reads as files_r
use Rattle.hallanupp.specs.contracts.sessions.hallanupp_session as session_c
use Rattle.hallanupp.proofs.sessions.hallanupp_session.Reads as session_r
use Rattle.hallanupp.specs.contracts.parts.hallanupp_solo_part as solo_c
use Rattle.hallanupp.proofs.parts.hallanupp_solo_part.Reads as solo_r
use Rattle.hallanupp.specs.contracts.parts.hallanupp_row_back as row_c
use Rattle.hallanupp.proofs.parts.hallanupp_row_back.Reads as row_r
use Rattle.hallanupp.specs.contracts.panels.hallanupp_panel as panel_c
use Rattle.hallanupp.proofs.panels.hallanupp_panel.Reads as panel_r
use Rattle.hallanupp.specs.contracts.texts.hallanupp_desk_text as desk_c
use Rattle.hallanupp.proofs.texts.hallanupp_desk_text.Reads as desk_r

-- ---- the reply of each, from the clauses that the source has

pub version_reply : Replies version_c.ended version_r.Asked version_r.Learnt (λ κs a. record { answer = version; left = tt })
version_reply = record { taken = λ κs a. tt; reply = λ κs a o p i. record { answer = p i; left = tt } }

pub table_reply : Replies table_c.ended table_r.Asked table_r.Learnt (λ κs (table, _). record { answer = in_c (table_verdict table.now); left = (tt, tt) })
table_reply = record { taken = λ κs a. tt; reply = λ κs a o p i. record { answer = p i; left = (tt, tt) } }

pub files_reply : Replies files_c.ended files_r.Asked files_r.Learnt
    (λ κs (table, (log, _)). record { answer = in_c (files_verdict table.now log.now); left = (tt, (tt, tt)) })
files_reply = record { taken = λ κs a. tt; reply = λ κs a o p i. record { answer = p i; left = (tt, (tt, tt)) } }

pub session_reply : Replies session_c.ended session_r.Asked session_r.Learnt
    (λ κs (table, (log, (wall, (own, _)))). let played = page.session table.now log.now wall.now own.now in
    record { answer = session_in_c played; left = (tt, (tt, (played.wall, (played.own, tt)))) })
session_reply = record { taken = λ κs a. tt; reply = λ κs a o p i. record { answer = p.0 i; left = (tt, (tt, (p.1.0 i, (p.1.1 i, tt)))) } }

pub solo_reply : Replies solo_c.ended solo_r.Asked solo_r.Learnt
    (λ κs (table, (log, (booth, (n, (part, _))))). let asked = ask_solo table.now log.now booth n part.now in
    record { answer = in_c asked.verdict; left = (tt, (tt, (tt, (tt, (asked.buffer, tt))))) })
solo_reply = record { taken = λ κs a. tt; reply = λ κs a o p i. record { answer = p.0 i; left = (tt, (tt, (tt, (tt, (p.1 i, tt))))) } }

pub row_reply : Replies row_c.ended row_r.Asked row_r.Learnt
    (λ κs (own, (H, (booth, (n, _)))). record { answer = row_in_c H booth n (row_back own.now H booth n).verdict; left = (tt, (tt, (tt, (tt, tt)))) })
row_reply = record { taken = λ κs a. tt; reply = λ κs a o p i. record { answer = p.0 i; left = (tt, (tt, (tt, (tt, tt)))) } }

-- the bytes at the place that is answered are the row's
pub row_bytes : (κs : Lives row_c.ended) (a : Call row_c.ended κs) (o : Reply row_c.ended κs a) → Meets row_c.ended row_r.Learnt κs a o
    → take o.answer.count (drop o.answer.start a.0.now) ≡ (row_back a.0.now a.1.0 a.1.1.0 a.1.1.1.0).part
row_bytes κs a o p = p.1

pub panel_reply : Replies panel_c.ended panel_r.Asked panel_r.Learnt
    (λ κs (table, (wall, (booth, (t, _)))). record { answer = panel_in_c (shares.panel table.now wall.now booth t); left = (tt, (tt, (tt, (tt, tt)))) })
panel_reply = record { taken = λ κs a. tt; reply = λ κs a o p i. record { answer = p i; left = (tt, (tt, (tt, (tt, tt)))) } }

pub desk_reply : Replies desk_c.ended desk_r.Asked desk_r.Learnt
    (λ κs (input, (out, _)). record { answer = text_length input.now out.now; left = (tt, (with_text input.now out.now, tt)) })
desk_reply = record { taken = λ κs a. tt; reply = λ κs a o p i. record { answer = p.0 i; left = (tt, (p.1 i, tt)) } }

-- ---- the statement

pub record EveryAnswerPinned : Type 0 where
  pub version : OneReply version_c.ended version_r.Asked version_r.Learnt
  pub table_verdict : OneReply table_c.ended table_r.Asked table_r.Learnt
  pub files_verdict : OneReply files_c.ended files_r.Asked files_r.Learnt
  pub session : OneReply session_c.ended session_r.Asked session_r.Learnt
  pub solo_part : OneReply solo_c.ended solo_r.Asked solo_r.Learnt
  pub row_back : OneReply row_c.ended row_r.Asked row_r.Learnt
  pub panel : OneReply panel_c.ended panel_r.Asked panel_r.Learnt
  pub desk_text : OneReply desk_c.ended desk_r.Asked desk_r.Learnt

-- two replies meet in f's
only : {T : Ended} {asked : Asks T} {learnt : Tells T} {f : (κs : Lives T) (a : Call T κs) → Reply T κs a} → Replies T asked learnt f → OneReply T asked learnt
only r = record { taken = r.taken; once = λ κs a o q m n. r.reply κs a o m ∙ sym (r.reply κs a q n) }

pub every_answer_pinned : EveryAnswerPinned
every_answer_pinned =
    record {
      version = only version_reply;
      table_verdict = only table_reply;
      files_verdict = only files_reply;
      session = only session_reply;
      solo_part = only solo_reply;
      row_back = only row_reply;
      panel = only panel_reply;
      desk_text = only desk_reply;
    }
