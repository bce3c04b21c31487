-- What each command does.
use Rattle.std.specs.Prelude.{◌≡◌, ℕ, List, Option, Result}
use Rattle.zk_records.specs.declared.sink.Sink.{Sink}
use Rattle.zk_log.specs.declared.source.Source.{Source}
use Rattle.zk_path.specs.declared.memory.NoMemory.{NoMemory}
use Rattle.zk_log_commands.specs.Assembling.{Assembles}
use Rattle.zk_log_commands.specs.Debugs.{Debugs}
use Rattle.zk_log_commands.specs.Showing.{notice_of, report_of}
use Rattle.zk_log_commands.specs.Telling.{TellsLog}
use Rattle.zk_commands.specs.Mends.{MendsLog}
use Rattle.zk_commands.specs.Holding.{RunsRepl}
use Rattle.zk_commands.specs.Running.{RunsText}
use Rattle.zk_cli_args.specs.declared.form.Form.{Form}
use Rattle.zk_cli_args.specs.declared.form.Form.TheVariants as forms
use Rattle.zk_cli_args.specs.declared.command.Order.{Order}
use Rattle.zk_cli_args.specs.declared.command.Order.TheVariants as orders
use Rattle.zk_json_commands.specs.Logs.{TellsLogState}
use Rattle.zk_listings.specs.Listings.{TellsLogLines}
use Rattle.zk_log_commands.specs.declared.reporting.Report.TheVariants as reports

-- only the two debugger commands read the script, and only `mend` writes the report
abbrev pub Acts : {F S O R E : Type 0} → (F → Option (List ℕ)) → (S → Option (List ℕ)) → (O → Option (List ℕ)) → (R → Option (List ℕ)) → (E → Option (List ℕ)) → Order → Source F → Source F → Source S → Source S → Sink O → Sink O → Sink R → Sink R → Sink E → Sink E → Result ℕ NoMemory → Type 0
Acts remaining remaining_script written reported told (orders.Show upto) file file' script script' output output' report report' faults faults' result = TellsLog remaining written told (report_of (reports.Tree upto)) (notice_of (reports.Tree upto)) file file' output output' faults faults' result × (script' ≡ script) × (report' ≡ report)
Acts remaining remaining_script written reported told orders.List file file' script script' output output' report report' faults faults' result = TellsLog remaining written told (report_of reports.Listing) (notice_of reports.Listing) file file' output output' faults faults' result × (script' ≡ script) × (report' ≡ report)
Acts remaining remaining_script written reported told orders.Asm file file' script script' output output' report report' faults faults' result = Assembles remaining written told file file' output output' faults faults' result × (script' ≡ script) × (report' ≡ report)
Acts remaining remaining_script written reported told orders.Run file file' script script' output output' report report' faults faults' result = RunsText remaining written told file file' output output' faults faults' result × (script' ≡ script) × (report' ≡ report)
Acts remaining remaining_script written reported told orders.Mend file file' script script' output output' report report' faults faults' result = MendsLog remaining written reported told file file' output output' report report' faults faults' result × (script' ≡ script)
Acts remaining remaining_script written reported told orders.Debug file file' script script' output output' report report' faults faults' result = Debugs remaining remaining_script written told file file' script script' output output' faults faults' result × (report' ≡ report)
Acts remaining remaining_script written reported told (orders.Session prompts) file file' script script' output output' report report' faults faults' result = RunsRepl remaining remaining_script written told prompts file file' script script' output output' faults faults' result × (report' ≡ report)

-- `show` and `list` of a log have other forms than their own lines
abbrev pub ActsIn : {F S O R E : Type 0} → (F → Option (List ℕ)) → (S → Option (List ℕ)) → (O → Option (List ℕ)) → (R → Option (List ℕ)) → (E → Option (List ℕ)) → Order → Form → Source F → Source F → Source S → Source S → Sink O → Sink O → Sink R → Sink R → Sink E → Sink E → Result ℕ NoMemory → Type 0
ActsIn remaining remaining_script written reported told (orders.Show upto) forms.Json file file' script script' output output' report report' faults faults' result = TellsLogState remaining written told upto file file' output output' faults faults' result × (script' ≡ script) × (report' ≡ report)
ActsIn remaining remaining_script written reported told orders.List forms.Json file file' script script' output output' report report' faults faults' result = TellsLogLines remaining written told forms.Json file file' output output' faults faults' result × (script' ≡ script) × (report' ≡ report)
ActsIn remaining remaining_script written reported told orders.List forms.Times file file' script script' output output' report report' faults faults' result = TellsLogLines remaining written told forms.Times file file' output output' faults faults' result × (script' ≡ script) × (report' ≡ report)
ActsIn remaining remaining_script written reported told order form file file' script script' output output' report report' faults faults' result = Acts remaining remaining_script written reported told order file file' script script' output output' report report' faults faults' result
