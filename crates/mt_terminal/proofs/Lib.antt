mod SizeLaws
mod StepLaws
