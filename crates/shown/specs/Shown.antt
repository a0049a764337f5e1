-- What the printing program writes (document 01, "The printing program"). Assumes nothing.
use Rattle.std.specs.Prelude.{ℕ, zero, suc, List, [], ◌++◌, get_or, Ok, Err}
use Rattle.counts.specs.declared.ConfigId.{ConfigId}
use Rattle.counts.specs.declared.Kind.{Kind}
use Rattle.counts.specs.declared.Kind.TheVariants.{Legacy, Production}
use Rattle.counts.specs.Counts.{config_id}
use Rattle.summary.specs.declared.Refusal.{Refusal}
use Rattle.summary.specs.declared.Summary.{Summary}
use Rattle.image.specs.Check.{check_of}
use Rattle.summary.specs.Answers.{FileAnswer, refusal_told}
use Rattle.text.specs.Text.{bytes_of, space, line_end, hex, decimal}

unfoldable pub kind_name : Kind → List ℕ
kind_name Legacy = bytes_of "legacy"
kind_name Production = bytes_of "production"

-- for each N a line: ID CRC
unfoldable pub row_of : ConfigId → ℕ → List ℕ
row_of id crc = hex 1 id.0 ++ space ++ hex 8 crc ++ line_end

unfoldable pub rows_to : Summary → ℕ → List ℕ
rows_to s zero = []
rows_to s (suc N) = rows_to s N ++ row_of (get_or s.ids N (config_id 0)) (get_or s.crcs N 0)

-- ok KIND IDENTITY LINES CONFIGS
unfoldable pub head_of : Summary → List ℕ
head_of s =
    bytes_of "ok " ++ kind_name s.kind ++ space ++ hex 8 s.identity ++ space ++ decimal s.lines ++ space
    ++ decimal s.configs ++ line_end

unfoldable pub accepted_text : Summary → List ℕ
accepted_text s = head_of s ++ rows_to s s.configs

-- refused NUMBER line LINE at PLACE
unfoldable pub refused_text : Refusal → List ℕ
refused_text r =
    bytes_of "refused " ++ decimal (refusal_told r).number ++ bytes_of " line " ++ decimal (refusal_told r).line.0 ++ bytes_of " at "
    ++ decimal (refusal_told r).place.0 ++ line_end

unfoldable pub answer_text : FileAnswer → Summary → List ℕ
answer_text (Ok tt) s = accepted_text s
answer_text (Err r) s = refused_text r

unfoldable pub shown : List ℕ → List ℕ
shown text = answer_text (check_of text).answer (check_of text).summary
