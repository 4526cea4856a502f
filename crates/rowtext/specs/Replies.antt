-- The status and the text of what a top call means to write.
use Rattle.std.specs.Prelude.{ℕ, List, codes}
use Rattle.rowtext.specs.declared.reply.Answer.{Answer}
use Rattle.rowtext.specs.declared.reply.Answer.TheVariants.{Form, Unbuilt, Fault, Printed}
use Rattle.rowtext.specs.declared.reply.Reply.{Reply}
use Rattle.rowtext.specs.declared.reply.Reply.TheVariants.{Usage, Unread, Long, Answered}

abbrev pub answer_status : Answer → ℕ
answer_status (Printed text) = 0
answer_status Form = 2
answer_status (Fault text) = 3
answer_status Unbuilt = 8

abbrev pub answer_text : Answer → List ℕ
answer_text (Printed text) = text
answer_text Form = codes "form\n"
answer_text (Fault text) = text
answer_text Unbuilt = codes "unbuilt\n"

abbrev pub reply_status : Reply → ℕ
reply_status Usage = 1
reply_status Unread = 5
reply_status Long = 7
reply_status (Answered answer) = answer_status answer

abbrev pub reply_text : Reply → List ℕ
reply_text Usage = codes "usage\n"
reply_text Unread = codes "read\n"
reply_text Long = codes "long\n"
reply_text (Answered answer) = answer_text answer
