-- Request k: "accept a log or name the first wrong line and the line that should stand there". What is right are the lines of the log of the recording, whatever its bytes are;
-- what stands there are the lines of the log's bytes. A missing last newline is no fault, everything else is.
use Rattle.std.specs.Prelude.{ℕ, List, map}
use Rattle.log_lines.specs.Lines.{text_of}
use Rattle.log_text.specs.Text.{lines_of}
use Rattle.log_text.specs.Apart.{Apart, first_apart}
use Rattle.replay.specs.Log.{log_of}

unfoldable pub checked : List ℕ → List ℕ → List ℕ → List ℕ → Apart
checked events far near log = first_apart 1 (lines_of log) (map text_of (log_of events far near))
