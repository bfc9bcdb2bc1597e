mod StepLaws
mod ColumnLaws
