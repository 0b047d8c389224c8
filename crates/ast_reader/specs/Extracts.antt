-- The extract that the code holds, as the definitions see it.
use Rattle.query_spec.specs.Ast as ast
use Rattle.ast_reader.specs.declared.select.Extract.{Extract}

abbrev pub extract_of : Extract → ast.Extract
extract_of x = ast.extract x.shown x.clause x.group
