use Rattle.std.proofs.Common.{◌≡◌, ◌+◌, ◌++◌, drop}
use Rattle.std.specs.List.{AllByRecursion}
use Rattle.gpt.specs.Entries.{IsEntry, array_text}
use Rattle.gpt.specs.Image.{placed, taken}
use Rattle.gpt.proofs.writing.put_parts.Given as goal

abbrev pub invariant-loop-part : goal.invariant-loop-part
invariant-loop-part l =
    record {
      text : l.out.items ++ array_text (placed l.first (drop l.part-index l.parts)) ≡ l.fn.out.items ++ array_text (placed 40 l.parts);
      fit : AllByRecursion IsEntry (placed l.first (drop l.part-index l.parts)) → AllByRecursion IsEntry (placed 40 l.parts);
      left : l.first + taken (drop l.part-index l.parts) ≡ 40 + taken l.parts;
    }
