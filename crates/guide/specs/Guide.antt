-- The guide: the requests and what each reply leads to, steps 1 to 6 of document 01 ("The session") in its order, each before
-- the steps that follow it. From the file, the settings and the replies alone. Assumes nothing.
use Rattle.std.specs.Prelude.{List, [], ◌∷◌, cond, ℕ, zero, suc, ◌+◌, eqb, get_or, drop, Result, Ok, Err}
use Rattle.counts.specs.Counts.{config_number, config_id}
use Rattle.line.specs.declared.Line.{Line}
use Rattle.cuts.specs.Lines.{lines_of}
use Rattle.line.specs.Digits.{digit_val, values_of}
use Rattle.line.specs.Reading.{line_of}
use Rattle.summary.specs.declared.Summary.{Summary}
use Rattle.bus.specs.declared.Request.{Request}
use Rattle.bus.specs.declared.Misreply.{Misreply}
use Rattle.bus.specs.declared.Misreply.TheVariants.{Unanswered, Misshapen, Miscoded}
use Rattle.bus.specs.Bus.{write_of, word_bytes}
use Rattle.bus.specs.ReplyForm.{form_of}
use Rattle.guide.specs.declared.Reason.{Reason}
use Rattle.guide.specs.declared.Reason.TheVariants.{Nack, Shape, Pec, Program, Banks}
use Rattle.guide.specs.declared.Verdict.TheVariants.{Done, Mismatch, Halted}
use Rattle.guide.specs.declared.Target.{Target}
use Rattle.guide.specs.declared.Polled.{Polled}
use Rattle.guide.specs.declared.Polled.TheVariants.{Busy, Passed, Failed}
use Rattle.guide.specs.Terms.{Terms}
use Rattle.guide.specs.Requests.{point_to, read_data, read_block, line_request}
use Rattle.guide.specs.Plan.{Mark, other, file_line, Plan, ask, done}
use Rattle.guide.specs.Judged.{cleared, fit_of, polled_of, banks_right}

-- 20, 21 and 22: what a reply that is not in form halts with
abbrev pub reply_reason : Misreply → Reason
reply_reason Unanswered = Nack
reply_reason Misshapen = Shape
reply_reason Miscoded = Pec

-- 20 to 22 are tried at each reply, in order; one in form goes on with the word read
unfoldable pub hear : Result ℕ Misreply → (ℕ → Plan) → Plan
hear (Err m) next = done (Halted (reply_reason m))
hear (Ok w) next = next w

abbrev pub put : Mark → Request → (ℕ → Plan) → Plan
put m q next = ask (record { mark = m; request = q }) (λ r. hear (form_of q r.kind r.bytes) next)

abbrev pub write : Request → Plan → Plan
write q next = put other q (λ _. next)

abbrev pub read : Request → (ℕ → Plan) → Plan
read q next = put other q next

-- step 1: write C7 A2 00; read C5; write C5 with the four bytes read and bit 5 of the first cleared; write E7 02 00
unfoldable pub step1 : ℕ → Plan → Plan
step1 address rest =
    write (point_to address 0xA2 0x00) (read (read_data address) λ w.
    write (write_of address 0xC5 (word_bytes (cleared w))) (write (write_of address 0xE7 (0x02 ∷ 0x00 ∷ [])) rest))

-- the way on where none of 23 to 28 applies
unfoldable pub gate : Result (Unit {0}) Reason → Plan → Plan
gate (Ok tt) rest = rest
gate (Err r) rest = done (Halted r)

-- what a file asks of its device
abbrev pub target_of : Summary → Target
target_of file = record { kind = file.kind; identity = file.identity; configs = file.configs }

-- step 2: write C7 35 00; read C5: the counter. Read AD: identity. Write C7 87 BD; read C5: the flag. Read AE: revision. The words
-- are judged when all four are read
unfoldable pub step2 : Terms → Summary → Plan → Plan
step2 T file rest =
    let address = T.address in
    write (point_to address 0x35 0x00) (read (read_data address) λ counter.
    read (read_block address 0xAD) λ identity.
    write (point_to address 0x87 0xBD) (read (read_data address) λ flag.
    read (read_block address 0xAE) λ revision.
    gate (fit_of (target_of file) T.kept (record { counter = counter; identity = identity; flag = flag; revision = revision })) rest))

-- step 3: the write lines 5 to n, with the address in use and their own PEC
unfoldable pub lines : ℕ → ℕ → List Line → Plan → Plan
lines address i [] rest = rest
lines address i (l ∷ ls) rest = put (file_line i) (line_request address l) λ _. lines address (i + 1) ls rest

abbrev pub step3 : ℕ → List Line → Plan → Plan
step3 address ls rest = lines address 5 ls rest

-- step 4: write C7 7E 00; read C5 until bit 0 is 1 or the poll limit is used
unfoldable pub polled : Polled → Plan → Plan → Plan
polled Busy again rest = again
polled Passed again rest = rest
polled Failed again rest = done (Halted Program)

unfoldable pub polls : ℕ → ℕ → Plan → Plan
polls address zero rest = done (Halted Program)
polls address (suc left) rest = read (read_data address) λ status. polled (polled_of status) (polls address left rest) rest

unfoldable pub step4 : Terms → Plan → Plan
step4 T rest = write (point_to T.address 0x7E 0x00) (polls T.address T.limit rest)

-- step 5: write C7 7F 00; read C5: banks
unfoldable pub step5 : ℕ → ℕ → Plan → Plan
step5 address k rest =
    write (point_to address 0x7F 0x00) (read (read_data address) λ banks. cond (banks_right k banks) rest (done (Halted Banks)))

-- step 6, for N from 0: write RESTORE_CFG with one data byte, the identifier; write C7 94 00; read C5
unfoldable pub id_in : Summary → ℕ → ℕ
id_in file N = (get_or file.ids N (config_id 0)).0

unfoldable pub crc_in : Summary → ℕ → ℕ
crc_in file N = get_or file.crcs N 0

unfoldable pub verify : Terms → Summary → ℕ → ℕ → Plan
verify T file zero N = done Done
verify T file (suc left) N =
    let address = T.address in
    write (write_of address T.restore (id_in file N ∷ [])) (write (point_to address 0x94 0x00) (read (read_data address) λ crc.
    cond (eqb crc (crc_in file N)) (verify T file left (N + 1)) (done (Mismatch (config_number N)))))

abbrev pub step6 : Terms → Summary → Plan
step6 T file = verify T file file.configs 0

-- the whole, from the terms, what a file says, and its write lines
unfoldable pub guide : Terms → Summary → List Line → Plan
guide T file ls =
    let rest = step2 T file (step3 T.address ls (step4 T (step5 T.address file.configs (step6 T file)))) in
    cond T.wanted (step1 T.address rest) rest

-- ---- of a text

unfoldable pub lines_as : List (List ℕ) → List Line
lines_as [] = []
lines_as (t ∷ ts) = line_of (values_of digit_val t) ∷ lines_as ts

-- the write lines, 5 to n
unfoldable pub write_lines_of : List ℕ → List Line
write_lines_of text = lines_as (drop 4 (lines_of text))

-- of a file that says this
unfoldable pub guide_for : Terms → Summary → List ℕ → Plan
guide_for T file text = guide T file (write_lines_of text)
