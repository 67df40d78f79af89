-- The seven calls from C: what each answers, and the output buffer after it.
use Rattle.std.specs.Prelude.{ℕ, ◌+◌, ◌*◌, ◌^◌, ◌<◌, List, Ok, Err}
use Rattle.file_format.specs.Accepted.{Program}
use Rattle.file_verdict.specs.Verdict.{Verdict, verdict, number_of, record_of}
use Rattle.sheet_format.specs.declared.Level.TheVariants.{Level1, Level2, Level3}
use Rattle.sheet_format.specs.Bytes.{WriteResult, sheet_bytes, answer_by}
use Rattle.machine_spec.specs.declared.Machine.{Machine}
use Rattle.machine_spec.specs.declared.Machine.TheVariants.{Source, Target}
use Rattle.machine_spec.specs.declared.Model.TheVariants.{Tso, Pso}
use Rattle.text_page.specs.Pages.{page_text}
use Rattle.lanes_answers.specs.Calls.{run_file_by}

-- a success is the number of bytes written, a refusal number × 2^32 + record
abbrev pub packed : ℕ → ℕ → ℕ
packed n r = n * 2 ^ 32 + r

abbrev pub packed_answer : WriteResult → ℕ
packed_answer (Ok n) = n
packed_answer (Err r) = packed (number_of r) (record_of r)

-- an answer that fits 64 bits so
abbrev pub Small : WriteResult → Type 0
Small (Ok n) = Unit {0}
Small (Err r) = (number_of r < 2 ^ 32) × (record_of r < 2 ^ 32)

-- what is made of an accepted kernel, written into the output buffer
abbrev pub write_call_by : (Program → List ℕ) → Verdict → List ℕ → ℕ × List ℕ
write_call_by bytes v buffer = (packed_answer (answer_by bytes v buffer).0, (answer_by bytes v buffer).1)

abbrev pub run_call_by : Machine → Verdict → List ℕ → List ℕ → ℕ × List ℕ
run_call_by m v moves buffer = (packed_answer (run_file_by m v moves buffer).0, (run_file_by m v moves buffer).1)

-- lanes_lower1, lanes_lower2, lanes_lower3, lanes_page, lanes_run_source, lanes_run_tso and lanes_run_pso
abbrev pub call_lower1 : List ℕ → List ℕ → ℕ × List ℕ
call_lower1 kernel = write_call_by (sheet_bytes Level1) (verdict kernel)

abbrev pub call_lower2 : List ℕ → List ℕ → ℕ × List ℕ
call_lower2 kernel = write_call_by (sheet_bytes Level2) (verdict kernel)

abbrev pub call_lower3 : List ℕ → List ℕ → ℕ × List ℕ
call_lower3 kernel = write_call_by (sheet_bytes Level3) (verdict kernel)

abbrev pub call_page : List ℕ → List ℕ → ℕ × List ℕ
call_page kernel = write_call_by page_text (verdict kernel)

abbrev pub call_run_source : List ℕ → List ℕ → List ℕ → ℕ × List ℕ
call_run_source kernel = run_call_by Source (verdict kernel)

abbrev pub call_run_tso : List ℕ → List ℕ → List ℕ → ℕ × List ℕ
call_run_tso kernel = run_call_by (Target Tso) (verdict kernel)

abbrev pub call_run_pso : List ℕ → List ℕ → List ℕ → ℕ × List ℕ
call_run_pso kernel = run_call_by (Target Pso) (verdict kernel)
